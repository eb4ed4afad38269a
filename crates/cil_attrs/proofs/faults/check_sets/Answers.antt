use Rattle.std.specs.Prelude.{◌⊎◌, ◌↔◌, Contains, []}
use Rattle.std.proofs.Common.{◌∙◌, List, ap, subst}
use Rattle.cil_base.specs.Lists.{Lists, text_cmp}
use Rattle.cil_faults.specs.declared.code.FaultCode.TheVariants as causes
use Rattle.cil_faults.specs.declared.fault.Fault.{Fault}
use Rattle.cil_faults.proofs.RefusalLemmas.{answers_alike}
use Rattle.cil_known.specs.macros.Items.{items_in}
use Rattle.cil_known.specs.Known.{enabled_in}
use Rattle.cil_known.specs.Numbers.{has_section}
use Rattle.cil_attrs.specs.SetFaults.{CircularSet, IsItemName, SetFault, TooMany, limit_of}
use Rattle.cil_attrs.proofs.FaultLemmas.{alias_of_space, attribute_of_space, circular_told, faults_back, faults_there, names_are}
use Rattle.cil_attrs.proofs.SpaceLemmas.{alias_wanted, attribute_wanted}
use Rattle.cil_attrs.proofs.faults.check_sets.Goals as goal

pub push_targets-requires-clause-entries : goal.push_targets-requires-clause-entries
push_targets-requires-clause-entries c = let (sections, which, policy) = c.requires.known in policy.known.entries

pub push_targets-requires-clause-known : goal.push_targets-requires-clause-known
push_targets-requires-clause-known c = let (sections, which, policy) = c.requires.known in (c.args.names.now, sections, which, policy)

pub push_circular-requires-clause-entries : goal.push_circular-requires-clause-entries
push_circular-requires-clause-entries c = let (sections, which, policy) = c.requires.known in policy.known.entries

pub push_circular-requires-clause-wanted : goal.push_circular-requires-clause-wanted
push_circular-requires-clause-wanted c = λ a e.
    alias_wanted c.args.space.now c.args.sign c.requires.space a e

pub push_circular-requires-2-clause-entries : goal.push_circular-requires-2-clause-entries
push_circular-requires-2-clause-entries c = let (sections, which, policy) = c.requires.known in policy.known.entries

pub push_circular-requires-2-clause-wanted : goal.push_circular-requires-2-clause-wanted
push_circular-requires-2-clause-wanted c = λ a e.
    attribute_wanted c.args.space.now c.args.sign c.requires.space a e

pub returns : goal.returns
returns c = λ sections which policy.
    let k = c.args.known.now in
    let i = c.args.instances.now in
    let xs = items_in i in
    let s = enabled_in k in
    let first = c.push_many.new.faults.items in
    let second = c.push_targets.new.faults.items in
    let third = c.push_circular.new.faults.items in
    let fourth = c.push_circular-2.new.faults.items in
    let names = subst (Lists text_cmp (IsItemName xs s which.item)) policy.named (names_are k xs sections policy.known which.item (ap has_section policy.is_space.item ∙ c.requires.space.numbered)) in
    let of_many : (f : Fault) → Contains first f ↔ (Contains [] f ⊎ TooMany xs s which f) =
    subst (λ (old : List Fault). (f : Fault) → Contains first f ↔ (Contains old f ⊎ TooMany xs s which f)) c.new-faults.ensures.items (c.in_ok-push_many.ensures xs s which (ap limit_of policy.is_space.item ∙ c.requires.limit) names) in
    let of_targets = c.in_ok-push_targets.ensures c.args.names.now sections which policy in
    let circular = c.requires.circular which policy.is_space in
    let of_aliases : (f : Fault) → Contains third f ↔ (Contains second f ⊎ CircularSet xs s which f which.aliases causes.AliasCycle) =
    circular_told k i policy.known.entries which c.args.circular.now circular causes.AliasCycle c.args.space.now.aliases which.aliases policy.is_space.aliases
    (alias_of_space which) second third c.in_ok-push_circular.ensures.none c.in_ok-push_circular.ensures.some in
    let of_attributes : (f : Fault) → Contains fourth f ↔ (Contains third f ⊎ CircularSet xs s which f which.attributes causes.SetCycle) =
    circular_told k i policy.known.entries which c.args.circular.now circular causes.SetCycle c.args.space.now.attributes which.attributes policy.is_space.attributes
    (attribute_of_space which) third fourth c.in_ok-push_circular-2.ensures.none
    c.in_ok-push_circular-2.ensures.some in
    answers_alike (Contains fourth) (SetFault xs s which) (λ done. Unit {0}) (faults_there xs s which first second third fourth of_many of_targets of_aliases of_attributes)
    (faults_back xs s which first second third fourth of_many of_targets of_aliases of_attributes) c.refuse.result c.refuse.ensures.told

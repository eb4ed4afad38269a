use Rattle.std.specs.Prelude.{Option}
use Rattle.std.proofs.Common.{◌↔◌, List, Bool, ◌∙◌, sym, subst}
use Rattle.std.proofs.lemmas.Bool.{true≢false}
use Rattle.cil_faults.specs.declared.fault.Fault.{Fault}
use Rattle.cil_faults.specs.declared.code.FaultCode.TheVariants as causes
use Rattle.cil_syntax.specs.declared.kind.Kind.TheVariants as kinds
use Rattle.cil_macros.specs.Items.{items_in}
use Rattle.cil_known.specs.Known.{enabled_in}
use Rattle.cil_mls.specs.attrs.Targets.{IsToldIn}
use Rattle.cil_mls.specs.declared.level.Range.{Range}
use Rattle.cil_ranges.specs.Given.{AreWithout}
use Rattle.cil_ranges.specs.Users.{HasTwoRanges}
use Rattle.cil_ranges.proofs.UserFaultLemmas.{AmongTold, both_told, twice_is, two_told, without_is}
use Rattle.cil_ranges.proofs.user_faults.push_user_faults.Goals as goal

pub returns-then-not-are_on : goal.returns-then-not-are_on
returns-then-not-are_on c = λ g items reads are on.
    let k = c.args.known.now in
    let xs = items_in c.args.instances.now in
    let s = enabled_in k in
    let twice : (f : Fault) → AmongTold k g c.as_slice-differing.result.now xs f ↔ HasTwoRanges s g f = λ f.
    subst (λ (l : List Bool). AmongTold k g l xs f ↔ HasTwoRanges s g f) (sym c.as_slice-differing.ensures.value) (twice_is k xs c.requires.known.0 c.requires.known.1 c.means_what_it_names.ensures g items c.args.all.now are f) in
    two_told s g c.args.faults.now.items c.push_twice.new.faults.items (AmongTold k g c.as_slice-differing.result.now xs) (c.in_ok-push_twice.ensures g items reads) twice (λ h. true≢false (sym (on.1 h) ∙ c.if-not-are_on.true))

pub returns : goal.returns
returns c = λ g items reads are on.
    let k = c.args.known.now in
    let xs = items_in c.args.instances.now in
    let s = enabled_in k in
    let all = c.args.all.now in
    let twice : (f : Fault) → AmongTold k g c.as_slice-differing.result.now xs f ↔ HasTwoRanges s g f = λ f.
    subst (λ (l : List Bool). AmongTold k g l xs f ↔ HasTwoRanges s g f) (sym c.as_slice-differing.ensures.value) (twice_is k xs c.requires.known.0 c.requires.known.1 c.means_what_it_names.ensures g items all are f) in
    let (flags, without, more) = c.in_ok-push_without.ensures in
    let of_ranges : AreWithout all.ranges.items flags = subst (λ (l : List (Option Range)). AreWithout l flags) c.as_slice.ensures.value without in
    both_told s g c.args.faults.now.items c.push_twice.new.faults.items c.push_without.new.faults.items (AmongTold k g c.as_slice-differing.result.now xs)
    (IsToldIn k.lookup.namespaces.now k.lookup.names.now xs s kinds.User causes.UserNoRange flags) (c.in_ok-push_twice.ensures g items reads) more twice
    (without_is k xs c.requires.known.0 c.requires.known.1 c.means_what_it_names.ensures g items all are c.requires.room flags of_ranges (on.0 c.if-not-are_on.false))

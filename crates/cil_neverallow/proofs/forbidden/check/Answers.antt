use Rattle.std.proofs.Common.{subst, sym}
use Rattle.cil_faults.proofs.RefusalLemmas.{answers_alike}
use Rattle.cil_macros.specs.Items.{item_at, items_in}
use Rattle.cil_macros.proofs.ItemLemmas.{item_there}
use Rattle.cil_index.specs.known.Known.{enabled_in}
use Rattle.cil_neverallow.specs.NeverFaults.{NeverFault}
use Rattle.cil_neverallow.specs.Permissions.{AreIn}
use Rattle.cil_neverallow.proofs.PermissionLemmas.{same_back, same_there}
use Rattle.cil_neverallow.proofs.TieLemmas.{fault_back, fault_there}
use Rattle.cil_neverallow.proofs.forbidden.check.Goals as goal

pub compare-requires-clause-allowed : goal.compare-requires-clause-allowed
compare-requires-clause-allowed c = c.in_ok-allowed.ensures.within

pub returns : goal.returns
returns c = λ names known apart standing classes given same forbids.
    let i = c.args.instances.now in
    let k = c.args.known.now in
    let v = c.args.view.now in
    let forbidden = c.args.forbidden.now in
    let near = c.in_ok-allowed.ensures.statements names known apart standing classes given in
    let are : AreIn c.all_rules.result.now c.as_slice.result.now = subst (AreIn c.all_rules.result.now) (sym c.as_slice.ensures.value) c.in_ok-masks.ensures in
    answers_alike _ (NeverFault (items_in i) (enabled_in k)) (λ done. Unit {0})
    (λ f w. fault_there k (items_in i) names known apart v same classes (item_at i) (item_there i) forbidden near.all c.requires.forbidden near.within forbids near.are f
    (same_there (item_at i) v forbidden near.all c.in_ok-allowed.allowed c.all_rules.result.now c.as_slice.result.now c.all_rules.ensures are near.keeps f w))
    (λ f w. same_back (item_at i) v forbidden near.all c.in_ok-allowed.allowed c.all_rules.result.now c.as_slice.result.now c.all_rules.ensures are near.keeps f
    (fault_back k (items_in i) names known apart v same classes (item_at i) (item_there i) forbidden near.all c.requires.forbidden near.within forbids near.are f w))
    _ c.compare.ensures

use Rattle.std.specs.Prelude.{◌≡◌, ◌↔◌, take, true}
use Rattle.cil_macros.specs.Items.{items_in}
use Rattle.cil_base.specs.Records.{AreRecordsOf}
use Rattle.cil_mls.specs.OrderFaults.{Switches}
use Rattle.cil_classes.specs.known.Known.{enabled_in}
use Rattle.cil_constraints.specs.Compiled.{IsConstraintOf}
use Rattle.cil_constraints.specs.ForNames.{ForNames}
use Rattle.cil_constraints.specs.Stated.{CaseBy}
use Rattle.cil_constraints.proofs.gather.unsorted.Given as goal

abbrev pub invariant-loop-at : goal.invariant-loop-at
invariant-loop-at l = ((l.levels_on ≡ true) ↔ Switches (items_in l.instances) (enabled_in l.known) true)
    → ForNames l.known (items_in l.instances) l.sets l.classes l.given (λ names.
    AreRecordsOf (CaseBy (items_in l.instances) (enabled_in l.known)) (IsConstraintOf (items_in l.instances) (enabled_in l.known) names l.classes) (take l.at (items_in l.instances)) l.list.items)

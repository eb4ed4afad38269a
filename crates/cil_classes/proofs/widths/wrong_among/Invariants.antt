use Rattle.std.specs.Prelude.{take}
use Rattle.cil_macros.specs.Items.{items_in}
use Rattle.cil_names.specs.Entries.{is_in}
use Rattle.cil_classes.specs.Widths.{AreToldOf, IsWrong}
use Rattle.cil_classes.proofs.widths.wrong_among.Given as goal

abbrev pub invariant-loop-at : goal.invariant-loop-at
invariant-loop-at l = AreToldOf (IsWrong (is_in l.lookup.enabled.now) (items_in l.instances)) (take l.at (items_in l.instances)) l.faults.items

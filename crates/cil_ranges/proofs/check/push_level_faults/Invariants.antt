use Rattle.std.specs.Prelude.{take}
use Rattle.cil_macros.specs.Items.{items_in}
use Rattle.cil_ranges.specs.Checked.{AddsAmong}
use Rattle.cil_ranges.proofs.check.push_level_faults.Given as goal

abbrev pub invariant-loop-at : goal.invariant-loop-at
invariant-loop-at l = AddsAmong l.known l.judge l.fn.faults.items l.faults.items (take l.at (items_in l.instances))

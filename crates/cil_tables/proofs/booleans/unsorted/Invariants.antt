use Rattle.std.specs.Prelude.{take}
use Rattle.cil_macros.specs.Items.{items_in}
use Rattle.cil_known.specs.Known.{enabled_in}
use Rattle.cil_tables.proofs.BooleanLemmas.{AreOn}
use Rattle.cil_tables.proofs.booleans.unsorted.Given as goal

abbrev pub invariant-loop-at : goal.invariant-loop-at
invariant-loop-at l = AreOn (enabled_in l.known) (take l.at (items_in l.instances)) l.on.items

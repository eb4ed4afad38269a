use Rattle.std.specs.Prelude.{take}
use Rattle.cil_classes.specs.ClassRows.{AreListed}
use Rattle.cil_classes.proofs.rows.rows_of.Given as goal

abbrev pub invariant-loop-number : goal.invariant-loop-number
invariant-loop-number l = AreListed (take l.number l.names) l.places l.permissions l.rows.items

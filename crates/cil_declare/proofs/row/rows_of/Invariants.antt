use Rattle.cil_declare.specs.Rows.{AreRowsUpTo}
use Rattle.cil_declare.proofs.row.rows_of.Given as goal

abbrev pub invariant-loop-at : goal.invariant-loop-at
invariant-loop-at l = AreRowsUpTo l.instances l.at l.rows.items

use Rattle.cil_labels.specs.Rows.{Gains, IsBelow, IsNameRow}
use Rattle.cil_labels.proofs.index.push_names.Given as goal

abbrev pub invariant-loop-place : goal.invariant-loop-place
invariant-loop-place l = Gains (IsBelow (IsNameRow l.names) l.place) l.initial.rows.items l.rows.items

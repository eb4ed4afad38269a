use Rattle.cil_labels.specs.Rows.{Gains, IsAliasRow, IsBelow}
use Rattle.cil_labels.proofs.index.push_aliases.Given as goal

abbrev pub invariant-loop-alias : goal.invariant-loop-alias
invariant-loop-alias l = Gains (IsBelow (IsAliasRow l.aliases) l.alias-index) l.initial.rows.items l.rows.items

use Rattle.cil_tables.specs.AliasRows.{AreAliasesAt}
use Rattle.cil_tables.proofs.aliases.unsorted.Given as goal

abbrev pub invariant-loop-d : goal.invariant-loop-d
invariant-loop-d l = AreAliasesAt l.known l.types l.d l.aliases.items

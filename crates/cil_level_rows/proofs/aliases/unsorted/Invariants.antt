use Rattle.cil_level_rows.specs.AliasEntries.{AreAliasesBelow}
use Rattle.cil_level_rows.proofs.aliases.unsorted.Given as goal

abbrev pub invariant-loop-d : goal.invariant-loop-d
invariant-loop-d l = AreAliasesBelow l.known l.kind l.standing l.places l.d l.aliases.items

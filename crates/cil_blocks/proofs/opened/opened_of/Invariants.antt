use Rattle.cil_syntax.specs.Program.{program_of}
use Rattle.cil_blocks.specs.Laws.{HasOneTarget}
use Rattle.cil_blocks.proofs.OpenedLemmas.{AreOpenedUpTo}
use Rattle.cil_blocks.proofs.opened.opened_of.Given as goal

abbrev pub invariant-loop-number : goal.invariant-loop-number
invariant-loop-number l = HasOneTarget (program_of l.statements) → AreOpenedUpTo (program_of l.statements) l.number l.opened.items

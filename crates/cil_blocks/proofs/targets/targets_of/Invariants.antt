use Rattle.cil_syntax.specs.Program.{program_of}
use Rattle.cil_blocks.proofs.AllTargets.{AreTargetsUpTo}
use Rattle.cil_blocks.proofs.targets.targets_of.Given as goal

abbrev pub invariant-loop-number : goal.invariant-loop-number
invariant-loop-number l = AreTargetsUpTo (program_of l.statements) l.number l.lists.items

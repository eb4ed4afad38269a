use Rattle.cil_syntax.specs.Program.{program_of}
use Rattle.cil_blocks.specs.Reports.{IsUnresolved}
use Rattle.cil_blocks.proofs.InheritLemmas.{AreNumbersUpTo}
use Rattle.cil_blocks.proofs.inheritance.unresolved_of.Given as goal

abbrev pub invariant-loop-number : goal.invariant-loop-number
invariant-loop-number l = AreNumbersUpTo (program_of l.statements) (IsUnresolved (program_of l.statements)) l.number l.numbers.items

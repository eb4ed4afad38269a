use Rattle.cil_syntax.specs.Program.{program_of}
use Rattle.cil_blocks.specs.WrittenSpaces.{AreWrittenUpTo}
use Rattle.cil_blocks.proofs.written.written_spaces.Given as goal

abbrev pub invariant-loop-number : goal.invariant-loop-number
invariant-loop-number l = AreWrittenUpTo (program_of l.statements) l.number l.spaces

use Rattle.cil_syntax.specs.Program.{program_of}
use Rattle.cil_blocks.proofs.PartLemmas.{ArePartsUpTo}
use Rattle.cil_blocks.proofs.parts.parts_of.Given as goal

abbrev pub invariant-loop-i : goal.invariant-loop-i
invariant-loop-i l = ArePartsUpTo (program_of l.statements) l.i l.parts

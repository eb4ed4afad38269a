use Rattle.cil_syntax.specs.Program.{program_of}
use Rattle.cil_macros.specs.NamedParameters.{AreNamedUpTo}
use Rattle.cil_macros.proofs.parameters.parameters_of.Given as goal

abbrev pub invariant-loop-number : goal.invariant-loop-number
invariant-loop-number l = AreNamedUpTo (program_of l.statements) l.number l.parameters

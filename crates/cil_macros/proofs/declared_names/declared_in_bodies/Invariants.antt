use Rattle.cil_syntax.specs.Program.{program_of}
use Rattle.cil_macros.specs.DeclaredInBodies.{AreDeclaredUpTo}
use Rattle.cil_macros.specs.NamedParameters.{AreNamed}
use Rattle.cil_macros.proofs.declared_names.declared_in_bodies.Given as goal

abbrev pub invariant-loop-number : goal.invariant-loop-number
invariant-loop-number l = AreDeclaredUpTo (program_of l.statements) l.number l.declared × AreNamed (program_of l.statements) l.declared.parameters

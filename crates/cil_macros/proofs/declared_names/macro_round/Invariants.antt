use Rattle.std.proofs.Common.{◌≡◌}
use Rattle.cil_syntax.specs.Program.{program_of}
use Rattle.cil_blocks.specs.Entries.{statement_at}
use Rattle.cil_blocks.specs.Named.{rank}
use Rattle.cil_macros.specs.DeclaredInBodies.{macro_in}
use Rattle.cil_macros.proofs.declared_names.macro_round.Given as goal

abbrev pub invariant-loop-at : goal.invariant-loop-at
invariant-loop-at l = macro_in (program_of l.statements) l.at ≡ (statement_at (program_of l.statements) l.number).context.macro

abbrev pub decreases-loop-at : goal.decreases-loop-at
decreases-loop-at l = rank l.at

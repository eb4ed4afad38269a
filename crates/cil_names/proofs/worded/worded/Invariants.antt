use Rattle.std.proofs.Common.{◌≡◌, map, take}
use Rattle.cil_syntax.specs.Program.{statement_of}
use Rattle.cil_names.specs.Worded.{is_worded}
use Rattle.cil_names.proofs.worded.worded.Given as goal

abbrev pub invariant-loop-statement : goal.invariant-loop-statement
invariant-loop-statement l = l.flags.items ≡ map (λ s. is_worded (statement_of s)) (take l.statement-index l.statements)

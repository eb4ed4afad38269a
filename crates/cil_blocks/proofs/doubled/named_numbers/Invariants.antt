use Rattle.std.proofs.Common.{◌≡◌, ◌<◌, ℕ, true}
use Rattle.cil_syntax.specs.Program.{program_of}
use Rattle.cil_blocks.specs.Doubled.{AreThose, is_named_at}
use Rattle.cil_blocks.proofs.doubled.named_numbers.Given as goal

abbrev pub invariant-loop-i : goal.invariant-loop-i
invariant-loop-i l = AreThose (λ (i : ℕ). (i < l.i) × (is_named_at (program_of l.statements) i ≡ true)) l.named.items

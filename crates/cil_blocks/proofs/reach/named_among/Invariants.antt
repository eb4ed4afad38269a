use Rattle.std.proofs.Common.{◌≡◌, ℕ, take, true}
use Rattle.cil_syntax.specs.Program.{program_of}
use Rattle.cil_blocks.specs.Doubled.{AreKept, is_named_at}
use Rattle.cil_blocks.proofs.reach.named_among.Given as goal

abbrev pub invariant-loop-number : goal.invariant-loop-number
invariant-loop-number l = AreKept (λ (i : ℕ). is_named_at (program_of l.statements) i ≡ true) (take l.number-index l.numbers) l.found.items

use Rattle.std.proofs.Common.{◌≡◌, ℕ, false, length, get_or}
use Rattle.cil_settle.proofs.reach.no_flags.Given as goal

abbrev pub invariant-loop-node : goal.invariant-loop-node
invariant-loop-node l = (length l.flags.items ≡ l.node) × ((v : ℕ) → get_or l.flags.items v false ≡ false)

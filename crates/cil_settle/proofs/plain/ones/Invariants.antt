use Rattle.std.proofs.Common.{◌≡◌, ◌<◌, ℕ, length, get_or}
use Rattle.cil_settle.proofs.plain.ones.Given as goal

abbrev pub invariant-loop-node : goal.invariant-loop-node
invariant-loop-node l = (length l.need.items ≡ l.node) × ((v : ℕ) → v < l.node → get_or l.need.items v 0 ≡ 1)

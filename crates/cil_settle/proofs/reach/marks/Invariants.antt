use Rattle.std.proofs.Common.{◌≡◌, ℕ, ◌<◌, false, length, get_or, take}
use Rattle.cil_base.specs.Among.{among}
use Rattle.cil_settle.proofs.reach.marks.Given as goal

abbrev pub invariant-loop-node : goal.invariant-loop-node
invariant-loop-node l = (length l.flags.items ≡ l.nodes) × ((v : ℕ) → v < l.nodes → get_or l.flags.items v false ≡ among (take l.node-index l.order) v)

use Rattle.std.proofs.Common.{length, ◌≡◌, ◌<◌, ℕ, get_or, take, false}
use Rattle.cil_base.specs.Among.{among}
use Rattle.cil_mls.proofs.order.has_all.Given as goal

abbrev pub invariant-loop-number : goal.invariant-loop-number
invariant-loop-number l = (length l.marks.items ≡ l.count) × ((u : ℕ) → u < l.count → get_or l.marks.items u false ≡ among (take l.number-index l.order) u)

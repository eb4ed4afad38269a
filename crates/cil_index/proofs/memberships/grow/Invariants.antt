use Rattle.std.proofs.Common.{ℕ, ◌≡◌, ◌-◌, [], get_or, length, suc}
use Rattle.cil_index.proofs.memberships.grow.Given as goal

abbrev pub invariant-loop-alloc : goal.invariant-loop-alloc
invariant-loop-alloc l = (t : ℕ) → get_or l.lists.items t [] ≡ get_or l.fn.lists.items t []

abbrev pub decreases-loop-alloc : goal.decreases-loop-alloc
decreases-loop-alloc l = suc l.of_type - length l.lists.items

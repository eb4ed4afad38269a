use Rattle.std.specs.Prelude.{◌≡◌, ℕ, ◌<◌, cond, ◌+◌, false, length}
use Rattle.cil_optionals.specs.Parts.{parts_in}
use Rattle.cil_optionals.specs.Removals.{IsTaken, IsWellAt, count_set}
use Rattle.cil_optionals.proofs.removal.by_removal.Given as goal

abbrev pub invariant-loop-taken : goal.invariant-loop-taken
invariant-loop-taken l =
    IsTaken (parts_in l.parts) l.entries l.left.items l.reasons.items × (l.taken ≡ false → (at : ℕ) → at < length (parts_in l.parts) → IsWellAt (parts_in l.parts) l.entries l.left.items at)

abbrev pub decreases-loop-taken : goal.decreases-loop-taken
decreases-loop-taken l = count_set l.left.items + cond l.taken 1 0

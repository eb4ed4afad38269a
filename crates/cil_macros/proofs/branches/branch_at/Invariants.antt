use Rattle.std.proofs.Common.{◌+◌, ◌<◌, ◌≤◌, length}
use Rattle.cil_blocks.specs.Places.{entries_in}
use Rattle.cil_macros.specs.InBranches.{HasBranchOf}
use Rattle.cil_macros.specs.Walks.{placed_in}
use Rattle.cil_macros.proofs.branches.branch_at.Given as goal

-- what is at the first place is in the branch of what is at the place that was reached
abbrev pub invariant-loop-opener : goal.invariant-loop-opener
invariant-loop-opener l =
    (l.place < length (entries_in l.spaces) + length l.brought.entries.items) × (l.place ≤ l.at) × HasBranchOf (placed_in l.spaces l.brought.entries.items) l.at l.place

abbrev pub decreases-loop-opener : goal.decreases-loop-opener
decreases-loop-opener l = l.place

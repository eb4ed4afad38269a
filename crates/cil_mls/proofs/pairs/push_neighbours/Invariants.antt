use Rattle.std.proofs.Common.{length, ◌≤◌, ◌-◌}
use Rattle.cil_mls.specs.Pairs.{IsNextBefore, LeadMore}
use Rattle.cil_mls.proofs.pairs.push_neighbours.Given as goal

abbrev pub invariant-loop-at : goal.invariant-loop-at
invariant-loop-at l = (1 ≤ l.at) × LeadMore l.fn.edges.items l.edges.items (IsNextBefore l.standing l.words l.at)

abbrev pub decreases-loop-at : goal.decreases-loop-at
decreases-loop-at l = length l.words - l.at

use Rattle.std.proofs.Common.{◌-◌, length}
use Rattle.cil_ranges.proofs.UserLemmas.{AreNoneUpTo}
use Rattle.cil_ranges.proofs.users.no_ranges.Given as goal

abbrev pub invariant-loop-ranges : goal.invariant-loop-ranges
invariant-loop-ranges l = AreNoneUpTo l.count l.ranges.items

abbrev pub decreases-loop-ranges : goal.decreases-loop-ranges
decreases-loop-ranges l = l.count - length l.ranges.items

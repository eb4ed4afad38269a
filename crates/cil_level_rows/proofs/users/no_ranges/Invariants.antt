use Rattle.std.proofs.Common.{◌-◌, length}
use Rattle.cil_ranges.proofs.UserLemmas.{AreNoneUpTo}
use Rattle.cil_level_rows.proofs.users.no_ranges.Given as goal

abbrev pub invariant-loop-kept : goal.invariant-loop-kept
invariant-loop-kept l = AreNoneUpTo l.count l.kept.items

abbrev pub decreases-loop-kept : goal.decreases-loop-kept
decreases-loop-kept l = l.count - length l.kept.items

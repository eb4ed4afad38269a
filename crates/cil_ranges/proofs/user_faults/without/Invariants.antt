use Rattle.cil_ranges.proofs.UserFaultLemmas.{AreWithoutUpTo}
use Rattle.cil_ranges.proofs.user_faults.without.Given as goal

abbrev pub invariant-loop-range : goal.invariant-loop-range
invariant-loop-range l = AreWithoutUpTo l.ranges l.range-index l.flags.items

use Rattle.std.proofs.Common.{◌-◌, length}
use Rattle.cil_levels.proofs.PermitLemmas.{AreEmptyUpTo}
use Rattle.cil_levels.proofs.permits.empty_sets.Given as goal

abbrev pub invariant-loop-sets : goal.invariant-loop-sets
invariant-loop-sets l = AreEmptyUpTo l.count l.sets.items

abbrev pub decreases-loop-sets : goal.decreases-loop-sets
decreases-loop-sets l = l.count - length l.sets.items

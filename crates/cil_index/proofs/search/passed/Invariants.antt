use Rattle.std.proofs.Common.{◌-◌}
use Rattle.cil_index.proofs.RunLemmas.{IsPassed}
use Rattle.cil_index.proofs.search.passed.Given as goal

abbrev pub invariant-loop-at : goal.invariant-loop-at
invariant-loop-at l = IsPassed l.aims.items l.start l.aim l.at

abbrev pub decreases-loop-at : goal.decreases-loop-at
decreases-loop-at l = l.end - l.at

use Rattle.std.proofs.Common.{◌-◌, length}
use Rattle.cil_declare.proofs.RunLemmas.{AreRunsUpTo}
use Rattle.cil_declare.proofs.run.runs_of.Given as goal

abbrev pub invariant-loop-start : goal.invariant-loop-start
invariant-loop-start l = AreRunsUpTo l.instances l.rows l.runs.items l.start

abbrev pub decreases-loop-start : goal.decreases-loop-start
decreases-loop-start l = length l.rows - l.start

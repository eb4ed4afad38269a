use Rattle.cil_locate.proofs.ReadingLemmas.{AreToldUpTo}
use Rattle.cil_locate.proofs.telling.put_readings.Given as goal

abbrev pub invariant-loop-number : goal.invariant-loop-number
invariant-loop-number g l = AreToldUpTo l.files l.faults l.fn.output l.output l.number

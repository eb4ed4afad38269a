use Rattle.cil_locate.proofs.ReadingLemmas.{AreReadUpTo}
use Rattle.cil_locate.proofs.reading.read_all.Given as goal

abbrev pub invariant-loop-file : goal.invariant-loop-file
invariant-loop-file l = AreReadUpTo l.files l.readings.faults.items l.readings.modules l.file-index

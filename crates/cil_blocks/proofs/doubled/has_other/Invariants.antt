use Rattle.std.proofs.Common.{take}
use Rattle.cil_blocks.proofs.DoubledLemmas.{AreAll}
use Rattle.cil_blocks.proofs.doubled.has_other.Given as goal

abbrev pub invariant-loop-other : goal.invariant-loop-other
invariant-loop-other l = AreAll l.number (take l.other-index l.numbers)

use Rattle.std.proofs.Common.{take}
use Rattle.cil_locate.specs.Readings.{AreAllRead}
use Rattle.cil_locate.proofs.found.are_all_read.Given as goal

abbrev pub invariant-loop-fault : goal.invariant-loop-fault
invariant-loop-fault l = AreAllRead (take l.fault-index l.faults)

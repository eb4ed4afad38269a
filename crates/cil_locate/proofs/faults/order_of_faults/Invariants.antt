use Rattle.std.proofs.Common.{◌≡◌, map, take}
use Rattle.cil_locate.specs.Located.{key_of}
use Rattle.cil_locate.specs.Order.{numbered_from}
use Rattle.cil_locate.proofs.faults.order_of_faults.Given as goal

abbrev pub invariant-loop-fault : goal.invariant-loop-fault
invariant-loop-fault l = l.told.items ≡ numbered_from 0 (map (key_of l.origins) (take l.fault-index l.faults))

use Rattle.std.proofs.Common.{◌≡◌, ◌≤◌, take}
use Rattle.std.specs.Prelude.{count_by, is_some}
use Rattle.cil_locate.proofs.found.unreadable.Given as goal

abbrev pub invariant-loop-fault : goal.invariant-loop-fault
invariant-loop-fault l = (l.count ≤ l.fault-index) × (l.count ≡ count_by is_some (take l.fault-index l.faults))

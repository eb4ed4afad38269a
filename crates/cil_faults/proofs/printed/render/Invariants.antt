use Rattle.std.specs.Prelude.{◌≡◌, take}
use Rattle.cil_faults.specs.Printed.{printed}
use Rattle.cil_faults.proofs.printed.render.Given as goal

abbrev pub invariant-loop-fault : goal.invariant-loop-fault
invariant-loop-fault l = l.text.items ≡ printed (take l.fault-index l.fault-items)

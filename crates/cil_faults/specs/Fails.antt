-- The form in which every step answers: its value, and then the step has no fault; or exactly its faults.
use Rattle.std.specs.Prelude.{◌<◌, List, length}
use Rattle.cil_base.specs.Lists.{Lists}
use Rattle.cil_faults.specs.declared.fault.Fault.{Fault}
use Rattle.cil_faults.specs.FaultOrder.{fault_cmp}

-- the list has the faults of the set, in order, each once; and there are some
pub record AreFaults (step : Fault → Type 0) (faults : List Fault) : Type 0 where
  pub listed : Lists fault_cmp step faults
  pub some : 0 < length faults

-- What the status of a check says.
use Rattle.std.proofs.Common.{◌≡◌, ℕ, ◌+◌, List, Option, Result, Ok, Err, Bor}
use Rattle.cil_faults.specs.declared.failure.Failure.{Failure}
use Rattle.cil_faults.specs.declared.failure.Failure.TheVariants as failures
use Rattle.cil_commands.specs.host.Machine.{State}
use Rattle.cil_commands.specs.host.Refusal.{Loads}
use Rattle.cil_commands.specs.host.Loaded.{Loaded}
use Rattle.cil_commands.specs.server.Load.{LeavesLoad, end_of, load_failures}
use Rattle.cil_commands.specs.server.LoadEnd.{LoadEnd}
use Rattle.cil_commands.specs.server.LoadEnd.TheVariants as ends
use Rattle.cilhost.specs.Checks.{HasFaults, load_status}
use Rattle.cilhost.specs.Reading.{HasJust, Known}
use Rattle.cilhost.specs.declared.status.Status.{Status}
use Rattle.cilhost.specs.declared.status.Status.TheVariants as statuses

-- where the status is that of a failure after a load, the writer failed
pub writer_failed : (ending : LoadEnd) (status : Status) (writes writes_now : ℕ) → status ≡ load_status ending → status ≡ statuses.Failed
    → writes_now ≡ writes + load_failures ending → writes_now ≡ writes + 1
writer_failed ends.WriteFailed status writes writes_now is e written = written
writer_failed ends.Loaded status writes writes_now is e written = absurd cc
writer_failed ends.Refused status writes writes_now is e written = absurd cc
writer_failed ends.NoMemory status writes writes_now is e written = absurd cc

-- where it is that of a refusal, the modules of the files have faults
pub has_faults : (holds : List ℕ → Known) (files : List (Bor (List ℕ))) (old new : State) (before after : Option (List ℕ)) (ending : LoadEnd) (status : Status)
    → HasJust holds files old.modules → LeavesLoad old new before after ending → status ≡ load_status ending → status ≡ statuses.Refused → HasFaults holds files
has_faults holds files old new before after ending status has (LeavesLoad.nothing stays same) is e = absurd cc
has_faults holds files old new before after ending status has (LeavesLoad.part result loads written) is e = absurd cc
has_faults holds files old new before after ending status has (LeavesLoad.whole result loads written) is e = by_result result loads is e
  where
    by_result : (r : Result Loaded Failure) → Loads old new r → status ≡ load_status (end_of r) → status ≡ statuses.Refused → HasFaults holds files
    by_result (Ok loaded) loads is e = absurd cc
    by_result (Err (failures.Faults faults)) loads is e = record { modules = old.modules; faults = faults; has_files = has; are_faults = loads.0 }
    by_result (Err failures.NoMemory) loads is e = absurd cc

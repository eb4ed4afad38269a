-- What the subcommand `check` does: a host installs the files, and then loads them. This project's profile.
use Rattle.std.specs.Prelude.{◌≡◌, ◌⊎◌, ◌+◌, ℕ, List, None, map}
use Rattle.std.specs.Borrow.{Bor}
use Rattle.cil_faults.specs.declared.failure.Failure.TheVariants as failures
use Rattle.cil_faults.specs.declared.fault.Fault.{Fault}
use Rattle.cil_commands.specs.host.Machine.{State}
use Rattle.cil_commands.specs.server.Load.{LeavesLoad, load_failures}
use Rattle.cil_commands.specs.server.LoadEnd.{LoadEnd}
use Rattle.cil_commands.specs.server.LoadEnd.TheVariants as ends
use Rattle.cil_commands.specs.tables.CompileRefusal.{CompileFails}
use Rattle.cilhost.specs.Ends.{error_status}
use Rattle.cilhost.specs.Reading.{Failure, HasJust, IsDue, Known}
use Rattle.cilhost.specs.Sessions.{Stream}
use Rattle.cilhost.specs.declared.error.Error.{Error}
use Rattle.cilhost.specs.declared.status.Status.{Status}
use Rattle.cilhost.specs.declared.status.Status.TheVariants as statuses

-- the status after a load with this end
abbrev pub load_status : LoadEnd → Status
load_status ends.Loaded = statuses.Done
load_status ends.Refused = statuses.Refused
load_status ends.NoMemory = statuses.NoMemory
load_status ends.WriteFailed = statuses.Failed

module _ (holds : List ℕ → Known) (before failure : Failure) (files : List (Bor (List ℕ))) where
  -- a host with just the files and no policy loaded them, its reply went to the output, and the status says how that ended
  pub record HasChecked (output written : Stream) (status : Status) : Type 0 where
    pub host : State
    pub after : State
    pub ending : LoadEnd
    pub has_files : HasJust holds files host.modules
    pub no_policy : host.loaded ≡ None
    pub load : LeavesLoad host after output.bytes written.bytes ending
    pub write_failures : written.failures ≡ output.failures + load_failures ending
    pub is_status : status ≡ load_status ending
    pub sound : failure ≡ before

  -- it stopped before anything was loaded, the output was not used, and the status says why
  pub record HasNotChecked {W : Type 0} (old new : W) (status : Status) : Type 0 where
    pub error : Error
    pub is_due : IsDue holds before failure files error
    pub unused : new ≡ old
    pub is_status : status ≡ error_status error

  abbrev pub IsCheck : {W : Type 0} → W → W → Stream → Stream → Status → Type 0
  IsCheck old new output written status = HasChecked output written status ⊎ HasNotChecked old new status

-- the modules of the files have faults, of which there are some
pub record HasFaults (holds : List ℕ → Known) (files : List (Bor (List ℕ))) : Type 0 where
  pub modules : List (List ℕ)
  pub faults : List Fault
  pub has_files : HasJust holds files modules
  pub are_faults : CompileFails modules (failures.Faults faults)

-- the check of files of these names; or there was no memory for the arguments, and the output was not used
abbrev pub RunsCheck : {W : Type 0} → (List ℕ → Known) → Failure → Failure → List (List ℕ) → W → W → Stream → Stream → Status → Type 0
RunsCheck holds before failure names old new output written status =
    ((files : List (Bor (List ℕ))) × (map (λ file. file.now) files ≡ names) × IsCheck holds before failure files old new output written status)
    ⊎ ((status ≡ statuses.NoMemory) × (failure ≡ before) × (new ≡ old))

-- What the subcommand `compile` does: the modules of the files are compiled, and their tables are written to a file. This project's profile.
use Rattle.std.specs.Prelude.{◌≡◌, ◌⊎◌, ◌+◌, ℕ, List, Option, Some, Result, map}
use Rattle.std.specs.Borrow.{Bor}
use Rattle.cil_commands.specs.Laid.{AreTables, LoadsTo, load_end}
use Rattle.cil_commands.specs.Told.{LeavesReply, end_failures}
use Rattle.cil_commands.specs.declared.reply.End.{End}
use Rattle.cil_commands.specs.server.Replies.{of_load}
use Rattle.cil_commands.specs.host.Loaded.{Loaded}
use Rattle.cil_faults.specs.declared.failure.Failure.{Failure as Refusal}
use Rattle.cilhost.specs.Ends.{end_status, error_status}
use Rattle.cilhost.specs.Reading.{Failure, HasFailed, HasJust, HasNotFailed, IsDue, Known}
use Rattle.cilhost.specs.Sessions.{Stream}
use Rattle.cilhost.specs.Written.{Written, with_bytes}
use Rattle.cilhost.specs.declared.error.Error.{Error}
use Rattle.cilhost.specs.declared.error.Error.TheVariants.{Arguments, Refused, Failed, NoMemory}
use Rattle.cilhost.specs.declared.status.Status.{Status}
use Rattle.cilhost.specs.declared.status.Status.TheVariants as statuses

-- the modules of the files have tables
pub record HaveTables (holds : List ℕ → Known) (files : List (Bor (List ℕ))) : Type 0 where
  pub modules : List (List ℕ)
  pub loaded : Loaded
  pub bytes : List ℕ
  pub has_files : HasJust holds files modules
  pub are_tables : AreTables modules loaded bytes

-- the reply of LOAD with this result went to the output, as far as the writer took it, and the status says how that ended
pub record HasReplied (result : Result Loaded Refusal) (output left : Stream) (status : Status) : Type 0 where
  pub ending : End
  pub reply : LeavesReply (λ bytes. bytes ≡ of_load result) output.bytes left.bytes (load_end result) ending
  pub failures : left.failures ≡ output.failures + end_failures ending
  pub is_status : status ≡ end_status ending

-- why there are tables that are not written: the system cannot write them, or there is no memory
abbrev pub IsUnwritten : Failure → Failure → Bor (List ℕ) → Option (List ℕ) → Error → Type 0
IsUnwritten before failure out tables (Refused file fault) = ⊥
IsUnwritten before failure out tables Arguments = ⊥
IsUnwritten before failure out tables (Failed file) = (file ≡ out) × HasFailed failure × ((bytes : List ℕ) × (tables ≡ Some bytes))
IsUnwritten before failure out tables NoMemory = HasNotFailed before failure

-- why nothing is written: the program stops at one of the files, or out of memory; or there are tables, and they cannot be written
abbrev pub IsStop : (List ℕ → Known) → Failure → Failure → List (Bor (List ℕ)) → Bor (List ℕ) → Error → Type 0
IsStop holds before failure files out error = IsDue holds before failure files error ⊎ ((error ≡ Failed out) × HasFailed failure × HaveTables holds files)

module _ (holds : List ℕ → Known) (before failure : Failure) (files : List (Bor (List ℕ))) (out : Bor (List ℕ)) (written written_now : Written) where
  -- modules that are just the files were compiled: the bytes of their tables are now the file `out`, where they have tables, and no other file
  -- was written; then the reply was
  pub record HasCompiled (output left : Stream) (status : Status) : Type 0 where
    pub modules : List (List ℕ)
    pub result : Result Loaded Refusal
    pub tables : Option (List ℕ)
    pub has_files : HasJust holds files modules
    pub loads : LoadsTo modules result tables
    pub writes : written_now ≡ with_bytes out.now tables written
    pub replied : HasReplied result output left status
    pub sound : failure ≡ before

  -- no file was written whole, the output was not used, and the status says why
  pub record HasNotCompiled {W : Type 0} (old new : W) (status : Status) : Type 0 where
    pub error : Error
    pub is_stop : IsStop holds before failure files out error
    pub unwritten : written_now ≡ written
    pub unused : new ≡ old
    pub is_status : status ≡ error_status error

  abbrev pub IsCompile : {W : Type 0} → W → W → Stream → Stream → Status → Type 0
  IsCompile old new output left status = HasCompiled output left status ⊎ HasNotCompiled old new status

-- the compilation of files of these names to this file; or there was no memory for the arguments, and nothing was written
abbrev pub RunsCompile : {W : Type 0} → (List ℕ → Known) → Failure → Failure → List ℕ → List (List ℕ) → Written → Written → W → W → Stream → Stream → Status → Type 0
RunsCompile holds before failure name names written written_now old new output left status =
    ((out : Bor (List ℕ)) × (files : List (Bor (List ℕ))) × (out.now ≡ name) × (map (λ file. file.now) files ≡ names)
    × IsCompile holds before failure files out written written_now old new output left status)
    ⊎ ((status ≡ statuses.NoMemory) × (failure ≡ before) × (written_now ≡ written) × (new ≡ old))

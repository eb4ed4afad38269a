-- What the subcommand `decide` does: the tables of a file are asked. This project's profile.
use Rattle.std.specs.Prelude.{◌≡◌, ◌⊎◌, ◌+◌, ◌<◌, ◌≤◌, ℕ, List, IfSome, length}
use Rattle.std.specs.Borrow.{Bor}
use Rattle.cil_commands.specs.Asked.{LeavesAnswer}
use Rattle.cil_commands.specs.Told.{end_failures}
use Rattle.cil_commands.specs.declared.reply.End.{End}
use Rattle.cilhost.specs.Ends.{end_status, error_status}
use Rattle.cilhost.specs.Reading.{Failure, HasFailed, HasNotFailed, Known}
use Rattle.cilhost.specs.Sessions.{Stream}
use Rattle.cilhost.specs.declared.error.Error.{Error}
use Rattle.cilhost.specs.declared.error.Error.TheVariants.{Arguments, Refused, Failed, NoMemory}
use Rattle.cilhost.specs.declared.status.Status.{Status}
use Rattle.cilhost.specs.declared.status.Status.TheVariants as statuses

-- how many bytes a file of tables may have
abbrev pub longest_tables : ℕ
longest_tables = 1073741824

-- these are all bytes of a file, where they are known, and not too many
pub record AreBytesOf (known : Known) (bytes : List ℕ) : Type 0 where
  pub same : IfSome known (λ all. bytes ≡ all)
  pub few : length bytes ≤ longest_tables

-- a file has too many bytes, where they are known
abbrev pub IsTooLong : Known → Type 0
IsTooLong known = IfSome known (λ all. longest_tables < length all)

-- why no tables are asked: the file cannot be read, or is too long; or there is no memory
abbrev pub IsUnread : Known → Failure → Failure → Bor (List ℕ) → Error → Type 0
IsUnread known before failure path (Refused file fault) = ⊥
IsUnread known before failure path Arguments = ⊥
IsUnread known before failure path (Failed file) = (file ≡ path) × (HasFailed failure ⊎ ((failure ≡ before) × IsTooLong known))
IsUnread known before failure path NoMemory = HasNotFailed before failure

module _ (holds : List ℕ → Known) (before failure : Failure) (path : Bor (List ℕ)) (source target class_name : List ℕ) where
  -- the bytes of the file were asked, the reply went to the output, and the status says how that ended
  pub record HasAsked (output left : Stream) (status : Status) : Type 0 where
    pub bytes : List ℕ
    pub ending : End
    pub are_bytes : AreBytesOf (holds path.now) bytes
    pub answer : LeavesAnswer bytes source target class_name output.bytes left.bytes ending
    pub failures : left.failures ≡ output.failures + end_failures ending
    pub is_status : status ≡ end_status ending
    pub sound : failure ≡ before

  -- it stopped before that, the output was not used, and the status says why
  pub record HasNotAsked {W : Type 0} (old new : W) (status : Status) : Type 0 where
    pub error : Error
    pub is_unread : IsUnread (holds path.now) before failure path error
    pub unused : new ≡ old
    pub is_status : status ≡ error_status error

  abbrev pub IsDecide : {W : Type 0} → W → W → Stream → Stream → Status → Type 0
  IsDecide old new output left status = HasAsked output left status ⊎ HasNotAsked old new status

-- the query of a file of this name; or there was no memory for the arguments, and the output was not used
abbrev pub RunsDecide : {W : Type 0} → (List ℕ → Known) → Failure → Failure → List ℕ → List ℕ → List ℕ → List ℕ → W → W → Stream → Stream → Status → Type 0
RunsDecide holds before failure name source target class_name old new output left status =
    ((path : Bor (List ℕ)) × (path.now ≡ name) × IsDecide holds before failure path source target class_name old new output left status)
    ⊎ ((status ≡ statuses.NoMemory) × (failure ≡ before) × (new ≡ old))

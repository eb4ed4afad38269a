-- What the subcommand `locate` does: it reads all files, and writes what is wrong with them. This project's profile.
use Rattle.std.specs.Prelude.{◌≡◌, ◌⊎◌, ◌+◌, ℕ, Bool, List, [], ◌∷◌, Contains, Some}
use Rattle.std.specs.Borrow.{Bor}
use Rattle.cil_locate.specs.Files.{SourceFile}
use Rattle.cil_locate.specs.Found.{IsLocated, failures_of}
use Rattle.cil_locate.specs.declared.search.Located.{Located}
use Rattle.cil_locate.specs.declared.search.Located.TheVariants as ends
use Rattle.cilhost.specs.Ends.{error_status}
use Rattle.cilhost.specs.Reading.{Failure, HasFailed, HasNotFailed, IsTextOf, Known}
use Rattle.cilhost.specs.Sessions.{Stream}
use Rattle.cilhost.specs.declared.error.Error.{Error}
use Rattle.cilhost.specs.declared.error.Error.TheVariants.{Arguments, Refused, Failed, NoMemory}
use Rattle.cilhost.specs.declared.status.Status.{Status}
use Rattle.cilhost.specs.declared.status.Status.TheVariants as statuses

-- the status after a search with this end
abbrev pub located_status : Located → Status
located_status ends.Accepted = statuses.Done
located_status (ends.Faults faults files) = statuses.Refused
located_status ends.NoMemory = statuses.NoMemory
located_status ends.WriteFailed = statuses.Failed

-- the file of a name, with what is read of it
pub record IsFileOf (holds : List ℕ → Known) (name : Bor (List ℕ)) (file : SourceFile) : Type 0 where
  pub named : file.name ≡ name.now
  pub is_text : IsTextOf (holds name.now) file.text

-- one for each name, in their order
pub data AreFiles (holds : List ℕ → Known) : List (Bor (List ℕ)) → List SourceFile → Type 0 where
  no_file : AreFiles holds [] []
  one_file : (name : Bor (List ℕ)) (file : SourceFile) (names : List (Bor (List ℕ))) (files : List SourceFile) → IsFileOf holds name file
      → AreFiles holds names files → AreFiles holds (name ∷ names) (file ∷ files)

-- why not all files are read: the system failed at one of them, or there was no memory
abbrev pub IsUnread : Failure → Failure → List (Bor (List ℕ)) → Error → Type 0
IsUnread before failure names (Refused file fault) = ⊥
IsUnread before failure names Arguments = ⊥
IsUnread before failure names (Failed file) = Contains names file × HasFailed failure
IsUnread before failure names NoMemory = HasNotFailed before failure

module _ (holds : List ℕ → Known) (before failure : Failure) (names : List (Bor (List ℕ))) (optionals : Bool) where
  -- what is wrong with the files went to the output, and the status says how that ended
  pub record HasLocated (output written : Stream) (status : Status) : Type 0 where
    pub files : List SourceFile
    pub ending : Located
    pub are_files : AreFiles holds names files
    pub located : (out : List ℕ) → output.bytes ≡ Some out → IsLocated files optionals out written.bytes ending
    pub write_failures : written.failures ≡ output.failures + failures_of ending
    pub is_status : status ≡ located_status ending
    pub sound : failure ≡ before

  -- not all files could be read, the output was not used, and the status says why
  pub record HasNotLocated {W : Type 0} (old new : W) (status : Status) : Type 0 where
    pub error : Error
    pub is_unread : IsUnread before failure names error
    pub unused : new ≡ old
    pub is_status : status ≡ error_status error

  abbrev pub IsLocate : {W : Type 0} → W → W → Stream → Stream → Status → Type 0
  IsLocate old new output written status = HasLocated output written status ⊎ HasNotLocated old new status

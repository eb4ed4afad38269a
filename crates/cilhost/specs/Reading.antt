-- What a session reads of its files, and at which file it stops. This project's profile.
use Rattle.std.specs.Prelude.{◌≡◌, ◌≢◌, ◌<◌, ◌⊎◌, codes, ℕ, suc, List, All, Option, Some, IfSome, Contains, take, length, slice_index_or}
use Rattle.std.specs.Borrow.{Bor}
use Rattle.std.specs.declared.io.ErrorKind.{ErrorKind}
use Rattle.std.specs.declared.io.ErrorKind.TheVariants.{OutOfMemory}
use Rattle.cil_sexpr.specs.declared.fault.ReadFault.{ReadFault}
use Rattle.cil_sexpr.specs.Faults.{FaultOf}
use Rattle.cil_sexpr.specs.Text.{IsReadable, longest_text}
use Rattle.cil_modset.specs.Modules.{AreModules}
use Rattle.cilhost.specs.declared.error.Error.{Error}
use Rattle.cilhost.specs.declared.error.Error.TheVariants.{Arguments, Refused, Failed, NoMemory}

-- the bytes of a file or of a stream, where they are known
abbrev pub Known : Type 0
Known = Option (List ℕ)

-- ---- the files

-- what is read of a file: one byte more than a module may have, at most
abbrev pub part_read : List ℕ → List ℕ
part_read bytes = take (suc longest_text) bytes

-- the text is what is read of a file, where its bytes are known
abbrev pub IsTextOf : Known → List ℕ → Type 0
IsTextOf known text = IfSome known (λ bytes. text ≡ part_read bytes)

-- what is read of a file is a module
pub record IsModule (known : Known) : Type 0 where
  pub text : List ℕ
  pub is_text : IsTextOf known text
  pub readable : IsReadable text

-- what is read of a file is among the modules
pub record HasText (known : Known) (modules : List (List ℕ)) : Type 0 where
  pub text : List ℕ
  pub is_text : IsTextOf known text
  pub is_there : Contains modules text

-- the text is what is read of one of the files
pub record IsOfOne (holds : List ℕ → Known) (files : List (Bor (List ℕ))) (text : List ℕ) : Type 0 where
  pub file : Bor (List ℕ)
  pub is_given : Contains files file
  pub is_text : IsTextOf (holds file.now) text

-- the modules are a set of readable texts: what is read of the files, and nothing else
pub record HasJust (holds : List ℕ → Known) (files : List (Bor (List ℕ))) (modules : List (List ℕ)) : Type 0 where
  pub all : All (λ file. HasText (holds file.now) modules) files
  pub only : (text : List ℕ) → Contains modules text → IsOfOne holds files text
  pub are_modules : AreModules modules

-- the new modules are the old ones, and what is read of a file, which is a module
pub record Adds (known : Known) (old new : List (List ℕ)) : Type 0 where
  pub text : List ℕ
  pub is_text : IsTextOf known text
  pub is_there : Contains new text
  pub keeps : (other : List ℕ) → Contains old other → Contains new other
  pub only : (other : List ℕ) → Contains new other → Contains old other ⊎ (other ≡ text)

-- ---- where a session stops

-- the fault is the first of the file, where its bytes are known
abbrev pub IsFaultOfFile : Known → ReadFault → Type 0
IsFaultOfFile known fault = IfSome known (λ bytes. FaultOf (part_read bytes) fault.code fault.at)

-- the kind of the error of the system's last call that failed
abbrev pub Failure : Type 0
Failure = Option ErrorKind

-- a call of the system failed, and not because it was out of memory
pub record HasFailed (failure : Failure) : Type 0 where
  pub kind : ErrorKind
  pub is_kind : failure ≡ Some kind
  pub no_memory : kind ≢ OutOfMemory

-- no call of the system has failed since, unless it was out of memory
abbrev pub HasNotFailed : Failure → Failure → Type 0
HasNotFailed before failure = (failure ≡ before) ⊎ (failure ≡ Some OutOfMemory)

-- a refusal names this file and the first fault of its bytes; a failure names this file, and the system failed
abbrev pub IsDueAt : Known → Failure → Failure → Bor (List ℕ) → Error → Type 0
IsDueAt known before failure given (Refused file fault) = (file ≡ given) × IsFaultOfFile known fault × (failure ≡ before)
IsDueAt known before failure given Arguments = ⊥
IsDueAt known before failure given (Failed file) = (file ≡ given) × HasFailed failure
IsDueAt known before failure given NoMemory = HasNotFailed before failure

-- the system failed before any file was read
abbrev pub IsDueFirst : Failure → Failure → Error → Type 0
IsDueFirst before failure (Refused file fault) = ⊥
IsDueFirst before failure Arguments = ⊥
IsDueFirst before failure (Failed file) = (file.now ≡ codes "-") × HasFailed failure
IsDueFirst before failure NoMemory = HasNotFailed before failure

module _ (holds : List ℕ → Known) (before failure : Failure) (files : List (Bor (List ℕ))) where
  -- the session stops at this file, the first from the left that is not installed
  pub record StopsAt (place : ℕ) (error : Error) : Type 0 where
    pub within : place < length files
    pub installed : (k : ℕ) (file : Bor (List ℕ)) → k < place → IsModule (holds (slice_index_or files k file).now)
    pub due : (file : Bor (List ℕ)) → IsDueAt (holds (slice_index_or files place file).now) before failure (slice_index_or files place file) error

  -- why there is no session
  abbrev pub IsDue : Error → Type 0
  IsDue error = IsDueFirst before failure error ⊎ ((place : ℕ) × StopsAt place error)

-- one of the files is no module
pub record HasRefused (holds : List ℕ → Known) (files : List (Bor (List ℕ))) : Type 0 where
  pub file : Bor (List ℕ)
  pub fault : ReadFault
  pub is_given : Contains files file
  pub is_fault : IsFaultOfFile (holds file.now) fault

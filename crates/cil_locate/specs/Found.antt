-- What is wrong with some files, and what is written of it. This project's profile.
use Rattle.std.specs.Prelude.{◌≡◌, ℕ, Bool, if◌then◌else◌, List, [], ◌++◌, length, map, Option, Some}
use Rattle.cil_faults.specs.declared.failure.Failure.TheVariants as failures
use Rattle.cil_server.specs.Devices.{IsFront}
use Rattle.cil_server.specs.tables.CompileAnswer.{IsCompiled}
use Rattle.cil_server.specs.tables.CompileRefusal.{CompileFails}
use Rattle.cil_locate.specs.Counts.{AreTold, unread}
use Rattle.cil_locate.specs.Files.{AreOrigins, SourceFile}
use Rattle.cil_locate.specs.Located.{faults_told, key_of, key_of_note, notes_told}
use Rattle.cil_locate.specs.Order.{AreInOrder, Key}
use Rattle.cil_locate.specs.Readings.{AreAllRead, AreReadings, AreTexts, readings_told}
use Rattle.cil_locate.specs.declared.found.Found.{Found}
use Rattle.cil_locate.specs.declared.found.Found.TheVariants as found
use Rattle.cil_locate.specs.declared.search.Located.{Located}
use Rattle.cil_locate.specs.declared.search.Located.TheVariants as ends
use Rattle.cil_locate.specs.declared.told.Told.{Told}

-- these are told at their files, in the order of the files and of their places
pub record AreOrdered {X : Type 0} (files : List SourceFile) (modules : List (List ℕ)) (key : List ℕ → X → Key) (xs : List X) (order : List Told) : Type 0 where
  pub origins : List ℕ
  pub are_origins : AreOrigins files modules origins
  pub in_order : AreInOrder (map (key origins) xs) order

-- what is wrong with the policy of modules that are the texts of the files: exactly its faults, or nothing
abbrev pub IsFoundOf : List SourceFile → List (List ℕ) → Found → Type 0
IsFoundOf files modules (found.Unreadable readings) = ⊥
IsFoundOf files modules (found.Refused faults order) = CompileFails modules (failures.Faults faults) × AreOrdered files modules key_of faults order.items
IsFoundOf files modules (found.Accepted compiled order) = IsCompiled modules compiled × AreOrdered files modules key_of_note compiled.reasons.items order.items

-- the policy of the files, with its modules
pub record IsOfPolicy (files : List SourceFile) (f : Found) : Type 0 where
  pub modules : List (List ℕ)
  pub are_texts : AreTexts files modules
  pub is_found : IsFoundOf files modules f

-- what is wrong with the files: some have a text that cannot be read; or what is wrong with their policy
abbrev pub IsFound : List SourceFile → Found → Type 0
IsFound files (found.Unreadable readings) = AreReadings files readings.items × (AreAllRead readings.items → ⊥)
IsFound files (found.Refused faults order) = IsOfPolicy files (found.Refused faults order)
IsFound files (found.Accepted compiled order) = IsOfPolicy files (found.Accepted compiled order)

-- what is written of it; of optionals that are left out, where they are asked for
abbrev pub found_text : List SourceFile → Bool → Found → List ℕ
found_text files optionals (found.Unreadable readings) = readings_told files readings.items
found_text files optionals (found.Refused faults order) = faults_told files faults order.items
found_text files optionals (found.Accepted compiled order) = if optionals then notes_told files compiled.reasons.items order.items else []

-- how the search ends where all was written: how many faults were told, and of how many files
abbrev pub IsEnd : Found → Located → Type 0
IsEnd (found.Unreadable readings) end = end ≡ ends.Faults (unread readings.items) (unread readings.items)
IsEnd (found.Refused faults order) end = (files : ℕ) × AreTold order.items files × (end ≡ ends.Faults (length faults) files)
IsEnd (found.Accepted compiled order) end = end ≡ ends.Accepted

-- all of what was found was written behind what was there
pub record IsWritten (files : List SourceFile) (optionals : Bool) (before : List ℕ) (contents : Option (List ℕ)) (end : Located) : Type 0 where
  pub found : Found
  pub is_found : IsFound files found
  pub written : contents ≡ Some (before ++ found_text files optionals found)
  pub is_end : IsEnd found end

-- the first part of it was
pub record IsCut (files : List SourceFile) (optionals : Bool) (before : List ℕ) (contents : Option (List ℕ)) : Type 0 where
  pub found : Found
  pub is_found : IsFound files found
  pub front : List ℕ
  pub is_front : IsFront front (found_text files optionals found)
  pub written : contents ≡ Some (before ++ front)

-- what is left of a writer, by how the search ended
abbrev pub IsLocated : List SourceFile → Bool → List ℕ → Option (List ℕ) → Located → Type 0
IsLocated files optionals before contents ends.NoMemory = contents ≡ Some before
IsLocated files optionals before contents ends.WriteFailed = IsCut files optionals before contents
IsLocated files optionals before contents ends.Accepted = IsWritten files optionals before contents ends.Accepted
IsLocated files optionals before contents (ends.Faults faults count) = IsWritten files optionals before contents (ends.Faults faults count)

-- how many calls of the writer failed
abbrev pub failures_of : Located → ℕ
failures_of ends.WriteFailed = 1
failures_of ends.NoMemory = 0
failures_of ends.Accepted = 0
failures_of (ends.Faults faults files) = 0

-- Which files cannot be read as texts, and the set of the texts that can. This project's profile.
use Rattle.std.specs.Prelude.{◌≡◌, ◌↔◌, ◌⊎◌, ℕ, List, [], ◌∷◌, ◌++◌, Option, Some, None, Contains}
use Rattle.cil_modset.specs.Modules.{AreModules}
use Rattle.cil_sexpr.specs.declared.fault.ReadFault.{ReadFault}
use Rattle.cil_sexpr.specs.Faults.{FaultOf}
use Rattle.cil_sexpr.specs.Text.{IsReadable}
use Rattle.cil_locate.specs.Files.{SourceFile}
use Rattle.cil_locate.specs.Lines.{place_in, reading_lines}
use Rattle.cil_locate.specs.Positions.{position_of}

-- the text is readable, or this is its first fault
abbrev pub IsReading : SourceFile → Option ReadFault → Type 0
IsReading file None = IsReadable file.text
IsReading file (Some fault) = FaultOf file.text fault.code fault.at

-- one for each file
pub data AreReadings : List SourceFile → List (Option ReadFault) → Type 0 where
  no_reading : AreReadings [] []
  one_reading : (file : SourceFile) (reading : Option ReadFault) (files : List SourceFile) (readings : List (Option ReadFault)) → IsReading file reading
      → AreReadings files readings → AreReadings (file ∷ files) (reading ∷ readings)

-- what is written of one
abbrev pub reading_told : SourceFile → Option ReadFault → List ℕ
reading_told file None = []
reading_told file (Some fault) = reading_lines file.name file.text (position_of file.text (place_in file.text fault.at)) fault

-- and of all, in the order of the files
unfoldable pub readings_told : List SourceFile → List (Option ReadFault) → List ℕ
readings_told [] readings = []
readings_told (file ∷ files) [] = []
readings_told (file ∷ files) (reading ∷ readings) = reading_told file reading ++ readings_told files readings

-- no file has a fault
abbrev pub AreAllRead : List (Option ReadFault) → Type 0
AreAllRead readings = (reading : Option ReadFault) → Contains readings reading → reading ≡ None

-- one of the files has this text
pub record IsTextOf (files : List SourceFile) (text : List ℕ) : Type 0 where
  pub file : SourceFile
  pub is_there : Contains files file
  pub same : file.text ≡ text

-- the modules are the texts of the files, and nothing else
pub record AreTexts (files : List SourceFile) (modules : List (List ℕ)) : Type 0 where
  pub are_modules : AreModules modules
  pub members : (text : List ℕ) → Contains modules text ↔ IsTextOf files text

-- the text is among the new modules, and beside it those that were there
pub record AddsText (text : List ℕ) (old new : List (List ℕ)) : Type 0 where
  pub keeps : (other : List ℕ) → Contains old other → Contains new other
  pub adds : Contains new text
  pub only : (other : List ℕ) → Contains new other → Contains old other ⊎ (other ≡ text)

-- a text that can be read is added
abbrev pub Adds : List ℕ → Option ReadFault → List (List ℕ) → List (List ℕ) → Type 0
Adds text None old new = AddsText text old new
Adds text (Some fault) old new = new ≡ old

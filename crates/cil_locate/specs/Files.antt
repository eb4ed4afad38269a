-- The files that faults are looked for in, and which of them a module is. This project's profile.
use Rattle.std.specs.Prelude.{◌≡◌, ℕ, zero, suc, ◌+◌, ◌<◌, ◌≤◌, if◌then◌else◌, List, [], ◌∷◌, length, slice_index, Option, Some, None, slice_get, bytes_eq}
use Rattle.std.specs.Option.{option_map_or}
use Rattle.cil_modset.specs.Modules.{module_of}
use Rattle.cil_locate.specs.Positions.{position_of}
use Rattle.cil_locate.specs.declared.telling.Last.{Last}

-- a file: its name, and as much of its text as is looked at
pub record SourceFile : Type 0 where
  pub name : List ℕ
  pub text : List ℕ

-- one more than a number that there may be
abbrev pub next_of : ℕ → ℕ
next_of zero = 0
next_of (suc k) = suc (suc k)

-- which file a text is told of: one more than the number of the first that has it; 0 where none has
unfoldable pub origin_of : List SourceFile → List ℕ → ℕ
origin_of [] text = 0
origin_of (file ∷ files) text = if bytes_eq file.text text then 1 else next_of (origin_of files text)

-- what is found among files behind some others, as a number among all
abbrev pub shifted : ℕ → ℕ → ℕ
shifted k zero = 0
shifted k (suc j) = suc j + k

-- for each of the modules, which file it is told of
pub record AreOrigins (files : List SourceFile) (modules : List (List ℕ)) (origins : List ℕ) : Type 0 where
  pub same : length origins ≡ length modules
  pub each : (m : ℕ) → m < length modules → slice_index origins m ≡ origin_of files (module_of modules m)

-- the file that is meant so
abbrev pub file_at : List SourceFile → ℕ → Option SourceFile
file_at files zero = None
file_at files (suc k) = slice_get files k

-- and its text; that of the policy is empty
abbrev pub text_at : List SourceFile → ℕ → List ℕ
text_at files origin = option_map_or (λ file. file.text) (file_at files origin) []

-- the place is one of its file
pub record IsLast (files : List SourceFile) (last : Last) : Type 0 where
  pub here : last.position ≡ position_of (text_at files last.origin) last.position.at
  pub within : last.position.at ≤ length (text_at files last.origin)

-- How a set of modules is spelled as bytes: five bytes that say what follows, how many modules there are, and
-- each module in byte order, with its size before it. The layout is this project's profile.
use Rattle.std.specs.Prelude.{◌≡◌, ℕ, ◌^◌, ◌<◌, List, [], ◌∷◌, ◌++◌, length, slice_index}
use Rattle.std.specs.List.{flat_map}
use Rattle.std.specs.Int.{w64, to_be_bytes}
use Rattle.cil_modset.specs.Modules.{AreModules}

-- each number of the list is a byte
abbrev pub AreBytes : List ℕ → Type 0
AreBytes bytes = (i : ℕ) → slice_index bytes i < 256

-- "CILB", and 1 for the layout
abbrev pub magic : List ℕ
magic = 67 ∷ 73 ∷ 76 ∷ 66 ∷ 1 ∷ []

-- a number, in eight bytes from the highest down
abbrev pub number : ℕ → List ℕ
number n = to_be_bytes w64 n

-- a module: its size, and its text
abbrev pub entry : List ℕ → List ℕ
entry text = number (length text) ++ text

-- a set: the magic bytes, how many modules it has, and these
abbrev pub bundle : List (List ℕ) → List ℕ
bundle modules = magic ++ (number (length modules) ++ flat_map entry modules)

-- the bytes are the bundle of a set of readable texts, of which there are few enough to be counted
pub record IsBundle (bytes : List ℕ) (modules : List (List ℕ)) : Type 0 where
  pub readable : AreModules modules
  pub counted : length modules < 2 ^ 64
  pub spelled : bytes ≡ bundle modules

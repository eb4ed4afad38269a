-- The number of a name in a list of names.
use Rattle.std.specs.Prelude.{◌≡◌, ℕ, List, slice_get, Some}

-- the name has this number in the list, and no other
pub record IsNumberOf (names : List (List ℕ)) (name : List ℕ) (n : ℕ) : Type 0 where
  pub at : slice_get names n ≡ Some name
  pub only : (k : ℕ) → slice_get names k ≡ Some name → k ≡ n

-- Which booleans are on, by the bits of some words.
use Rattle.std.specs.Int.{bit_at}
use Rattle.std.specs.Prelude.{◌≡◌, ◌↔◌, ◌<◌, ℕ, zero, suc, ◌/◌, ◌%◌, Bool, true, false, List, get_or, IsBitSet}

-- the bit of the number is set
abbrev pub IsOn : List ℕ → ℕ → Type 0
IsOn words n = IsBitSet (get_or words (n / 64) 0) (n % 64)

-- the first booleans, as many, have these values, and no other is on
abbrev pub IsSetTo : List Bool → ℕ → List ℕ → Type 0
IsSetTo values count words = (n : ℕ) → IsOn words n ↔ ((n < count) × (get_or values n false ≡ true))

abbrev pub is_one : ℕ → Bool
is_one zero = false
is_one (suc n) = true

-- whether the boolean of a number is on
abbrev pub is_on : List ℕ → ℕ → Bool
is_on words n = is_one (bit_at (get_or words (n / 64) 0) (n % 64))

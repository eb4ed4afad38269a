-- A set of numbers below 1,024, in 16 words of 64 bits. This project's profile.
use Rattle.std.specs.Prelude.{◌≡◌, ℕ, ◌/◌, ◌%◌, ◌^◌, ◌<◌, Bool, true, false, not, ◌==◌, ◌&&◌, leb, List, length}
use Rattle.std.specs.Int.{bit_at}
use Rattle.std.proofs.Common.{get_or}

-- the number is in the set
abbrev pub in_words : List ℕ → ℕ → Bool
in_words words c = bit_at (get_or words (c / 64) 0) (c % 64) == 1

-- the number is from the first to the last
abbrev pub is_between : ℕ → ℕ → ℕ → Bool
is_between first last c = leb first c && leb c last

-- just one of the two is true
abbrev pub differ : Bool → Bool → Bool
differ true b = not b
differ false b = b

-- how every set is kept
pub record AreWords (words : List ℕ) : Type 0 where
  pub len : length words ≡ 16
  pub fit : (i : ℕ) → get_or words i 0 < 2 ^ 64

-- The files that a command writes. This project's profile.
use Rattle.std.specs.Prelude.{ℕ, List, [], ◌∷◌, ◌++◌, Option, None, Some, option_map}

-- the files that were written whole, where that is known: the name and the bytes of each, in the order in which they were written
abbrev pub Written : Type 0
Written = Option (List (List ℕ × List ℕ))

-- one file more
abbrev pub with_file : List ℕ → List ℕ → Written → Written
with_file name bytes = option_map (λ files. files ++ (name, bytes) ∷ [])

-- one file more where there are bytes for it, else the same
abbrev pub with_bytes : List ℕ → Option (List ℕ) → Written → Written
with_bytes name (Some bytes) files = with_file name bytes files
with_bytes name None files = files

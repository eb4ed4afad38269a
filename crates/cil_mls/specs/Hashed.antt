-- What a set of categories writes to a hasher. This project's profile.
use Rattle.std.specs.Prelude.{ℕ, ◌+◌, ◌==◌, cond, List, [], ◌∷◌, ◌++◌}
use Rattle.std.specs.Hash as fed

-- nothing for a word that is 0, and for each other one its place and the word
abbrev pub hashed_word : ℕ → ℕ → List (List ℕ)
hashed_word at word = cond (word == 0) [] (fed.u8 at ++ fed.u64 word)

-- the words from a place on, and then the number of all words, which is no place
unfoldable pub hashed : ℕ → List ℕ → List (List ℕ)
hashed at [] = fed.u8 16
hashed at (word ∷ words) = hashed_word at word ++ hashed (at + 1) words

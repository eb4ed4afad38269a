-- Sets of categories, as tables lay them out: rising numbers. This project's profile.
use Rattle.std.specs.Prelude.{ℕ, zero, suc, ◌+◌, ◌*◌, Bool, cond, List, [], ◌∷◌}
use Rattle.cil_base.specs.Among.{among}
use Rattle.cil_mls.specs.declared.categories.Categories.{Categories}
use Rattle.cil_mls.specs.Bits.{in_words}
use Rattle.cil_format.specs.Fields.{set}
use Rattle.cil_format.specs.Format.{Format, as_type}

-- of so many numbers from one on, those that pass a test
unfoldable pub passing : (ℕ → Bool) → ℕ → ℕ → List ℕ
passing test from zero = []
passing test from (suc count) = cond (test from) (from ∷ passing test (suc from) count) (passing test (suc from) count)

-- the categories of a set, rising
abbrev pub numbers_in : Categories → List ℕ
numbers_in c = passing (in_words c.words) 0 1024

-- the word whose bits say, from the lowest on, which of so many numbers from one on pass a test
unfoldable pub word_of : (ℕ → Bool) → ℕ → ℕ → ℕ
word_of test from zero = 0
word_of test from (suc count) = cond (test from) 1 0 + 2 * word_of test (suc from) count

-- so many words, from the word at a place on
unfoldable pub words_from : (ℕ → Bool) → ℕ → ℕ → List ℕ
words_from test at zero = []
words_from test at (suc count) = word_of test (at * 64) 64 ∷ words_from test (suc at) count

-- the set of these categories
abbrev pub words_of : List ℕ → Categories
words_of numbers = record { words = words_from (among numbers) 0 16 }

-- a set of categories, of which there are so many
abbrev pub categories_below : ℕ → Format Categories
categories_below count = as_type words_of numbers_in (set count)

-- What placed statements say, as terms that are written at no place, so that the layers above read lists that are arguments as if they
-- were written. This project's profile.
use Rattle.std.specs.Prelude.{◌≡◌, ℕ, List, [], get_or, map, reverse, Some, slice_get}
use Rattle.std.specs.Global.{Vec}
use Rattle.cil_syntax.specs.declared.kind.Sign.TheVariants as signs
use Rattle.cil_faults.specs.declared.spot.Spot.{Spot}
use Rattle.cil_faults.specs.Spots.{spot_at}
use Rattle.cil_syntax.specs.declared.term.Term as rust
use Rattle.cil_syntax.specs.declared.term.Word.{Word}
use Rattle.cil_syntax.specs.Said.{all_said}
use Rattle.cil_syntax.specs.Scopes.{ScopedWord}
use Rattle.cil_syntax.specs.Terms.{Term, Terms}
use Rattle.cil_macros.specs.declared.listed.Part as kept_part
use Rattle.cil_macros.specs.declared.list_terms.Reading.{Reading}
use Rattle.cil_macros.specs.Item.{all_replaced, replaced}
use Rattle.cil_macros.specs.Listed.{Part, Read, closes, opens, part_there, text, with_part, word}
use Rattle.cil_macros.specs.Placed.{Placed}

-- ---- terms, whatever the places of their names and lists

abbrev pub nowhere : Spot
nowhere = spot_at 0 0

abbrev pub spotless : Term ScopedWord → Term ScopedWord
spotless = replaced (λ at. nowhere) (λ w. w)

abbrev pub all_spotless : Terms ScopedWord → Terms ScopedWord
all_spotless = all_replaced (λ at. nowhere) (λ w. w)

-- they are the same but for the places of names and lists: words keep theirs
abbrev pub IsAlike : Term ScopedWord → Term ScopedWord → Type 0
IsAlike t u = spotless t ≡ spotless u

abbrev pub AreAlike : Terms ScopedWord → Terms ScopedWord → Type 0
AreAlike ts us = all_spotless ts ≡ all_spotless us

-- ---- words that are written at the number of their part

abbrev pub no_word : ScopedWord
no_word = record { at = nowhere; bytes = []; sign = signs.Text; scope = [] }

abbrev pub word_in_part : Part → ScopedWord
word_in_part (word w) = w
word_in_part (text at bytes) = no_word
word_in_part (opens at op) = no_word
word_in_part closes = no_word

-- what a word says that is written there
abbrev pub numbered : List Part → Word → ScopedWord
numbered xs w = word_in_part (get_or xs w.at.at closes)

-- ---- terms that are read from the last part on

-- those of one list, which were put one behind another from the last one on
abbrev pub level_seen : List Part → ℕ → List rust.Term → Terms ScopedWord
level_seen xs m ts = all_replaced (λ at. nowhere) (numbered xs) (all_said m (reverse ts))

abbrev pub outer_seen : List Part → ℕ → List (Vec rust.Term) → List (Terms ScopedWord)
outer_seen xs m outer = map (λ (v : Vec rust.Term). level_seen xs m v.items) (reverse outer)

-- they are what some parts are that end with the last one of all
pub record AreRead (xs : List Part) (m : ℕ) (r : Reading) (read : Read) : Type 0 where
  pub level : level_seen xs m r.level.items ≡ all_spotless read.0
  pub outer : outer_seen xs m r.outer.items ≡ map all_spotless read.1

-- with the part of a number in front
abbrev pub IsReadMore : kept_part.Part → ℕ → Reading → Reading → Type 0
IsReadMore part number old new =
    (ps : List Placed) (xs : List Part) (m : ℕ) (read : Read) → slice_get xs number ≡ Some (part_there ps part) → AreRead xs m old read
    → AreRead xs m new (with_part (part_there ps part) read)

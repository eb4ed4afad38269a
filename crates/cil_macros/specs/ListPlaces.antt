-- Arguments that are lists, or `all`, at places where only a name may stand, as they are found: word by word of the statements of each
-- body. No other crate needs these words.
use Rattle.std.specs.Prelude.{◌≡◌, ◌↔◌, ◌⊎◌, ℕ, ◌+◌, ◌<◌, Bool, true, false, List, length, Some, slice_get}
use Rattle.std.specs.List.{list_any}
use Rattle.cil_syntax.specs.declared.term.Word.{Word}
use Rattle.cil_syntax.specs.Scopes.{ScopedWord}
use Rattle.cil_syntax.specs.Terms.{Term}
use Rattle.cil_syntax.specs.Written.{Written}
use Rattle.cil_blocks.specs.Contents.{Standing}
use Rattle.cil_blocks.specs.Places.{entries_in}
use Rattle.cil_macros.specs.declared.entry.Body.{Body}
use Rattle.cil_macros.specs.declared.entry.Called.{Called}
use Rattle.cil_macros.specs.declared.scene.Scene.{Scene}
use Rattle.cil_macros.specs.Brings.{is_marked}
use Rattle.cil_macros.specs.Calls.{Unfolded, unfolded}
use Rattle.cil_macros.specs.ExpandFaults.{HasMisplaced, words_placed}
use Rattle.cil_macros.specs.Listed.{Part, closes, opens, text, word}
use Rattle.cil_macros.specs.Macros.{all_standing}
use Rattle.cil_macros.specs.Placed.{Placed, is_misplaced, meaning}
use Rattle.cil_macros.specs.Puts.{unscoped}
use Rattle.cil_macros.specs.Scene.{placed_of_scene}
use Rattle.cil_macros.specs.Walks.{written_in}

-- ---- words

-- a word stands for such an argument
abbrev pub is_wrong_word : List Written → Placed → Word → Bool
is_wrong_word ws p w = is_misplaced w.sign (meaning ws p w)

-- the same of a bare part
abbrev pub is_wrong_part : (Word → Term ScopedWord) → Part → Bool
is_wrong_part f (word w) = is_misplaced w.sign (f (unscoped w))
is_wrong_part f (text at bytes) = false
is_wrong_part f (opens at op) = false
is_wrong_part f closes = false

-- a placed statement has such a word
abbrev pub has_wrong_word : List Written → List Standing → Placed → Bool
has_wrong_word ws ss p = list_any (is_wrong_word ws p) (words_placed ws ss p)

-- what is placed there has one
abbrev pub SaysWrong : Scene → ℕ → Bool → Type 0
SaysWrong s at b = (p : Placed) → slice_get (placed_of_scene s) at ≡ Some p → b ≡ has_wrong_word (written_in s.spaces.now) (all_standing s.spaces.now) p

-- ---- marks at the calls

-- a statement of the body of the call at a place has such a word; it is brought before a rank
pub record HasWrong (s : Scene) (upto k : ℕ) : Type 0 where
  pub rank : ℕ
  pub before : rank < upto
  pub called : Called
  pub is : slice_get s.brought.now.entries.items rank ≡ Some called
  pub body : Body
  pub is_body : slice_get s.brought.now.bodies.items called.body ≡ Some body
  pub by_call : body.call ≡ k
  pub there : Placed
  pub placed : slice_get (placed_of_scene s) (length (entries_in s.spaces.now) + rank) ≡ Some there
  pub wrong : has_wrong_word (written_in s.spaces.now) (all_standing s.spaces.now) there ≡ true

abbrev pub ArePlaces : Scene → List Bool → Type 0
ArePlaces s marks = length marks ≡ length (entries_in s.spaces.now) + length s.brought.now.entries.items

-- the marks are at the calls of such statements
abbrev pub AreWrongMarks : Scene → ℕ → List Bool → Type 0
AreWrongMarks s upto marks = (k : ℕ) → (is_marked marks k ≡ true) ↔ HasWrong s upto k

-- one step more
pub record IsNextMarked (s : Scene) (rank : ℕ) (old new : List Bool) : Type 0 where
  pub many : length new ≡ length old
  pub so : (k : ℕ)
      → (is_marked new k ≡ true)
      ↔ ((is_marked old k ≡ true)
      ⊎ ((called : Called) × (slice_get s.brought.now.entries.items rank ≡ Some called) × (body : Body) × (slice_get s.brought.now.bodies.items called.body ≡ Some body)
      × (body.call ≡ k) × (there : Placed) × (slice_get (placed_of_scene s) (length (entries_in s.spaces.now) + rank) ≡ Some there)
      × (has_wrong_word (written_in s.spaces.now) (all_standing s.spaces.now) there ≡ true)))

-- ---- what marks say

-- a call is unfolded, with an argument that fills such a place
pub record FillsWrongly (ws : List Written) (ss : List Standing) (p : Placed) : Type 0 where
  pub opened : Unfolded
  pub is : unfolded ws ss p ≡ Some opened
  pub has : HasMisplaced ws ss p opened

abbrev pub AreListMarks : List Written → List Standing → List Placed → List Bool → Type 0
AreListMarks ws ss ps marks = (k : ℕ) (p : Placed) → slice_get ps k ≡ Some p → (is_marked marks k ≡ true) ↔ FillsWrongly ws ss p

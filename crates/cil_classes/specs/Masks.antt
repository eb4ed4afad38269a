-- Masks: which permissions of a class an expression or a class permission gives, bit by bit.
use Rattle.std.specs.Prelude.{◌≡◌, ◌↔◌, ℕ, true, List, Contains, IsBitSet, Option, Some, length, slice_get, take}
use Rattle.std.specs.List.{list_any}
use Rattle.cil_syntax.specs.declared.term.LookedUp.{LookedUp}
use Rattle.cil_syntax.specs.declared.term.Term as rust
use Rattle.cil_syntax.specs.declared.term.Word.{Word}
use Rattle.cil_syntax.specs.Said.{said_of}
use Rattle.cil_syntax.specs.Spelling.{same_bytes}
use Rattle.cil_syntax.specs.Terms.{Term}
use Rattle.cil_classes.specs.declared.row.Class.{Class}
use Rattle.cil_names.specs.Declarations.{Symbol, name_of}
use Rattle.cil_names.specs.Unresolved.{term_with}
use Rattle.cil_macros.specs.Item.{Item, OptSet, words_in}
use Rattle.cil_syntax.specs.Scopes.{ScopedWord}
use Rattle.cil_classes.specs.Pairs.{HasPair}
use Rattle.cil_classes.specs.Values.{in_value_there}

-- the bit stands for a permission in the value of the expression
pub record IsBitIn (permissions : List (List ℕ)) (e : Term ScopedWord) (bit : ℕ) : Type 0 where
  pub permission : List ℕ
  pub at : slice_get permissions bit ≡ Some permission
  pub value : in_value_there e permission ≡ true

-- the mask has a bit for each of these permissions that is in the value of the expression
abbrev pub IsMaskOf : List (List ℕ) → Term ScopedWord → ℕ → Type 0
IsMaskOf permissions e mask = (bit : ℕ) → IsBitSet mask bit ↔ IsBitIn permissions e bit

-- the term is a word
abbrev pub IsLeaf : rust.Term → Type 0
IsLeaf t = (w : LookedUp) × (t ≡ rust.Leaf w)

abbrev pub AreLeaves : List rust.Term → Type 0
AreLeaves ts = (t : rust.Term) → Contains ts t → IsLeaf t

-- the expression has what its words name, and these are their numbers, where the numbers begin with theirs
pub record IsPlain (m : ℕ) (t : rust.Term) (words plain : List (Option ℕ)) : Type 0 where
  pub first : plain ≡ take (length (words_in (said_of m t))) words
  pub names : (f : Word → ScopedWord) (p : List ℕ) → in_value_there (term_with f m t) p ≡ list_any (λ w. same_bytes (f w).bytes p) (words_in (said_of m t))

-- the class permission gives no permission of any class
abbrev pub GivesNothing : List Item → OptSet → Term ScopedWord → Type 0
GivesNothing xs s t = (c : Symbol) (p : List ℕ) → HasPair xs s t c p → ⊥

-- the class of this number is the one of which the class permission gives permissions, and the mask is of those
pub record IsGiven (xs : List Item) (s : OptSet) (classes : List Class) (t : Term ScopedWord) (class_ mask : ℕ) : Type 0 where
  pub symbol : Symbol
  pub some : (p : List ℕ) × HasPair xs s t symbol p
  pub only_symbol : (c : Symbol) (p : List ℕ) → HasPair xs s t c p → c ≡ symbol
  pub row : Class
  pub is_row : slice_get classes class_ ≡ Some row
  pub named : row.name ≡ name_of symbol
  pub bits : (bit : ℕ) → IsBitSet mask bit ↔ ((p : List ℕ) × (slice_get row.permissions bit ≡ Some p) × HasPair xs s t symbol p)

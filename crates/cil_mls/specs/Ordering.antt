-- The orders of sensitivities and of categories, as statements give them. CIL Reference Guide, "sensitivityorder" and
-- "categoryorder"; that they have to fix just one order is this project's profile.
use Rattle.std.specs.Prelude.{◌≡◌, ℕ, suc, true, List, [], ◌∷◌, Some, Contains, length, slice_get}
use Rattle.cil_faults.specs.declared.spot.Spot.{Spot}
use Rattle.cil_syntax.specs.declared.kind.Keyword.{Keyword}
use Rattle.cil_syntax.specs.declared.kind.Kind.{Kind}
use Rattle.cil_syntax.specs.declared.term.Op.TheVariants as ops
use Rattle.cil_syntax.specs.Scopes.{ScopedWord}
use Rattle.cil_syntax.specs.Terms.{Term, Leaf, Form, Terms, nil, cons}
use Rattle.cil_attrs.specs.macros.Item.{Item, OptSet, is_enabled}
use Rattle.cil_attrs.specs.names.Declarations.{Declared, Symbol}
use Rattle.cil_attrs.specs.known.DeclaredKnown.{Known}
use Rattle.cil_attrs.specs.known.Known.{AreStanding, IsKnown, IsNumbered}
use Rattle.cil_attrs.specs.known.Members.{StandsFor}
use Rattle.cil_mls.specs.Orders.{IsOneOrder}

-- words, one after another
unfoldable pub listed : {L : Type 0} → List L → Terms L
listed [] = nil
listed (w ∷ ws) = cons (Leaf w) (listed ws)

-- the term is a list of these words
abbrev pub IsWordList : {L : Type 0} → Term L → List L → Type 0
IsWordList t words = (at : Spot) × (t ≡ Form at ops.Listed (listed words))

-- what is said is such a list alone
abbrev pub ListsWords : {L : Type 0} → Terms L → List L → Type 0
ListsWords {L = L} args words = (t : Term L) × (args ≡ cons t nil) × IsWordList t words

module _ (xs : List Item) (s : OptSet) (kind : Kind) (order : Keyword) where
  -- an enabled order statement lists a word for the one item, and next to it a word for the other. An alias stands for its item
  pub record IsBelow (a b : Symbol) : Type 0 where
    pub item : Item
    pub is_item : Contains xs item
    pub enabled : is_enabled s item ≡ true
    pub orders : item.keyword ≡ order
    pub words : List ScopedWord
    pub says : ListsWords item.args words
    pub place : ℕ
    pub low : ScopedWord
    pub high : ScopedWord
    pub is_low : slice_get words place ≡ Some low
    pub is_high : slice_get words (suc place) ≡ Some high
    pub names_low : StandsFor xs s kind low a
    pub names_high : StandsFor xs s kind high b

  -- the declared items from the lowest to the highest, where the statements leave one order alone
  abbrev pub IsTheOrder : List Symbol → Type 0
  IsTheOrder row = IsOneOrder (Declared xs s kind) IsBelow row

  -- they leave none, or several
  abbrev pub HasNoOrder : Type 0
  HasNoOrder = (row : List Symbol) → IsTheOrder row → ⊥

  -- the order, by the numbers that items have among these names
  pub record IsNumberedOrder (names : List (List ℕ)) (numbers : List ℕ) : Type 0 where
    pub row : List Symbol
    pub is_order : IsTheOrder row
    pub len : length numbers ≡ length row
    pub each : (i n : ℕ) (t : Symbol) → slice_get numbers i ≡ Some n → slice_get row i ≡ Some t → IsNumbered names t n

-- what is known of a policy, the names of its items of a kind, and for which of their numbers the words of each declared name stand
pub record AreNumbered (k : Known) (xs : List Item) (sections : Kind → List (List ℕ)) (kind : Kind) (names : List (List ℕ)) (sets : List (List ℕ)) : Type 0 where
  pub known : IsKnown k xs sections
  pub named : sections kind ≡ names
  pub standing : AreStanding k xs sections kind sets

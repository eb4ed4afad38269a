-- What order statements say of the numbers of items. No other crate needs these words.
use Rattle.std.specs.Prelude.{◌≡◌, ◌↔◌, ◌⊎◌, ℕ, suc, ◌<◌, Bool, true, false, ◌&&◌, List, Some, Option, Contains, slice_get}
use Rattle.cil_settle.specs.declared.edge.Edge.{Edge}
use Rattle.cil_settle.specs.Cycles.{Leads}
use Rattle.cil_syntax.specs.declared.kind.Keyword.{Keyword}
use Rattle.cil_syntax.specs.declared.term.Op.{Op}
use Rattle.cil_syntax.specs.declared.term.Op.TheVariants as ops
use Rattle.cil_syntax.specs.Scopes.{ScopedWord}
use Rattle.cil_syntax.specs.Terms.{Term, Leaf, Name, Form, Terms, nil, cons}
use Rattle.cil_attrs.specs.macros.Item.{Item, is_enabled}
use Rattle.cil_attrs.specs.known.DeclaredKnown.{Known}
use Rattle.cil_attrs.specs.known.Known.{enabled_in, meant_in, set_meant}
use Rattle.cil_mls.specs.Ordering.{ListsWords}

-- some edges lead where others lead, and from the one number to the other where this holds of them
abbrev pub LeadMore : List Edge → List Edge → (ℕ → ℕ → Type 0) → Type 0
LeadMore old new More = (a b : ℕ) → Leads new a b ↔ (Leads old a b ⊎ More a b)

-- of two neighbours in some meanings, the first of which is before this place, the one stands for the one number and the next for the other
pub record IsNextBefore (sets : List (List ℕ)) (row : List (Option ℕ)) (end a b : ℕ) : Type 0 where
  pub place : ℕ
  pub below : suc place < end
  pub low : Option ℕ
  pub high : Option ℕ
  pub is_low : slice_get row place ≡ Some low
  pub is_high : slice_get row (suc place) ≡ Some high
  pub low_has : Contains (set_meant sets low) a
  pub high_has : Contains (set_meant sets high) b

-- an enabled statement of this keyword lists a word for the one number, and next to it a word for the other
pub record IsPairBy (k : Known) (sets : List (List ℕ)) (order : Keyword) (x : Item) (a b : ℕ) : Type 0 where
  pub enabled : is_enabled (enabled_in k) x ≡ true
  pub orders : x.keyword ≡ order
  pub words : List ScopedWord
  pub says : ListsWords x.args words
  pub place : ℕ
  pub low : ScopedWord
  pub high : ScopedWord
  pub is_low : slice_get words place ≡ Some low
  pub is_high : slice_get words (suc place) ≡ Some high
  pub low_has : Contains (set_meant sets (meant_in k low)) a
  pub high_has : Contains (set_meant sets (meant_in k high)) b

-- some of these do
abbrev pub IsPairIn : Known → List (List ℕ) → Keyword → List Item → ℕ → ℕ → Type 0
IsPairIn k sets order xs a b = (x : Item) × Contains xs x × IsPairBy k sets order x a b

-- all parts of what is said are words
abbrev pub is_word : {L : Type 0} → Term L → Bool
is_word (Leaf w) = true
is_word (Name at bytes) = false
is_word (Form at op parts) = false

unfoldable pub are_words : {L : Type 0} → Terms L → Bool
are_words nil = true
are_words (cons t ts) = is_word t && are_words ts

abbrev pub is_listed : Op → Bool
is_listed ops.Listed = true
is_listed op = false

-- the term is a list of words
abbrev pub is_word_list : {L : Type 0} → Term L → Bool
is_word_list (Leaf w) = false
is_word_list (Name at bytes) = false
is_word_list (Form at op parts) = is_listed op && are_words parts

-- what is said is such a list alone
abbrev pub are_word_list : {L : Type 0} → Terms L → Bool
are_word_list nil = false
are_word_list (cons t nil) = is_word_list t
are_word_list (cons t (cons u ts)) = false

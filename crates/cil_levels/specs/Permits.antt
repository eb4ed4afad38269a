-- What statements permit, by numbers. No other crate needs these words.
use Rattle.std.specs.Prelude.{◌≡◌, ◌↔◌, ◌⊎◌, ℕ, ◌<◌, Bool, true, false, List, Contains, get_or, length, slice_get}
use Rattle.std.specs.Option.{option_map_or}
use Rattle.cil_syntax.specs.declared.kind.Keyword.TheVariants as keywords
use Rattle.cil_syntax.specs.Scopes.{ScopedWord}
use Rattle.cil_syntax.specs.Terms.{Term, Leaf, Name, Form, Terms, nil, cons}
use Rattle.cil_macros.specs.Item.{Item, is_enabled}
use Rattle.cil_known.specs.declared.known.Known.{Known}
use Rattle.cil_known.specs.Known.{enabled_in, meant_in, set_meant}
use Rattle.cil_mls.specs.declared.categories.Categories.{Categories}
use Rattle.cil_mls.specs.declared.expression.Held.{Held}
use Rattle.cil_mls.specs.Bits.{in_words}
use Rattle.cil_mls.specs.Values.{in_term}

-- the set of this number has the category
abbrev pub has_in : List Categories → ℕ → ℕ → Bool
has_in sets n c = option_map_or (λ (set : Categories). in_words set.words c) (slice_get sets n) false

-- so many sets that have nothing
pub record AreEmpty (count : ℕ) (sets : List Categories) : Type 0 where
  pub len : length sets ≡ count
  pub none : (n c : ℕ) → has_in sets n c ≡ false

-- some sets have what others have, and what else this says
pub record HaveMore (old new : List Categories) (More : ℕ → ℕ → Type 0) : Type 0 where
  pub len : length new ≡ length old
  pub each : (n c : ℕ) → n < length old → c < 1024 → (has_in new n c ≡ true) ↔ ((has_in old n c ≡ true) ⊎ More n c)

-- the first of what is said is a word
abbrev pub begins_with_word : {L : Type 0} → Terms L → Bool
begins_with_word nil = false
begins_with_word (cons (Leaf w) ts) = true
begins_with_word (cons (Name at x) ts) = false
begins_with_word (cons (Form at op us) ts) = false

module _ (k : Known) (standing : List (List ℕ)) (places : List ℕ) (helds : List Held) (count : ℕ) where
  -- the statement permits the category to the sensitivity at this place: its word stands for that, and its expression has the category
  pub record PermitsBy (x : Item) (n c : ℕ) : Type 0 where
    pub enabled : is_enabled (enabled_in k) x ≡ true
    pub permits : x.keyword ≡ keywords.SensitivityCategory
    pub word : ScopedWord
    pub expression : Term ScopedWord
    pub says : x.args ≡ cons (Leaf word) (cons expression nil)
    pub number : ℕ
    pub stands : Contains (set_meant standing (meant_in k word)) number
    pub place : get_or places number 0 ≡ n
    pub value : in_term helds count (meant_in k) c expression ≡ true

  -- some of these do
  abbrev pub PermitsAmong : List Item → ℕ → ℕ → Type 0
  PermitsAmong xs n c = (x : Item) × Contains xs x × PermitsBy x n c

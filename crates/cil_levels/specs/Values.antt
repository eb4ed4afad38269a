-- What the words and set expressions of categories hold, and what sets of categories have: all sets at once, as what solves one
-- equation for each. CIL Reference Guide, "categoryset" and "Expressions"; the equations are this project's form.
use Rattle.std.specs.Prelude.{◌≡◌, ◌↔◌, ◌⊎◌, ◌<◌, ℕ, Bool, true, ltb, List, length}
use Rattle.cil_faults.specs.declared.spot.Spot.{Spot}
use Rattle.cil_syntax.specs.declared.kind.Kind.TheVariants as kinds
use Rattle.cil_syntax.specs.Expressions.{is_in}
use Rattle.cil_syntax.specs.Scopes.{ScopedWord}
use Rattle.cil_syntax.specs.Terms.{Term, Name, Terms, nil, cons}
use Rattle.cil_macros.specs.Item.{Item, OptSet}
use Rattle.cil_names.specs.Declarations.{Symbol}
use Rattle.cil_known.specs.Spaces.{names}
use Rattle.cil_mls.specs.attrs.SetFaults.{DeclaresAt, symbol_under}
use Rattle.cil_mls.specs.CategorySets.{NamesSet}
use Rattle.cil_levels.specs.Places.{IsCategoryAt, IsInSpan}

-- which categories, by their places, each word holds, each range, and each set
pub record Values : Type 0 where
  pub has : ScopedWord → ℕ → Bool
  pub span : Terms ScopedWord → ℕ → Bool
  pub sets : Symbol → ℕ → Bool

-- the category is in the value of an expression; `all` is all categories of the order
abbrev pub in_value : List Symbol → Values → Term ScopedWord → ℕ → Bool
in_value row v e c = is_in (λ w. v.has w c) (ltb c (length row)) (λ ts. v.span ts c) e

module _ (xs : List Item) (s : OptSet) (row : List Symbol) (v : Values) where
  -- an enabled declaration of the set says an expression that has the category
  pub record IsGiven (a : Symbol) (c : ℕ) : Type 0 where
    pub item : Item
    pub at : Spot
    pub name : List ℕ
    pub declares : DeclaresAt xs s kinds.CategorySet item at name
    pub is_a : symbol_under item name ≡ a
    pub expression : Term ScopedWord
    pub says : item.args ≡ cons (Name at name) (cons expression nil)
    pub value : in_value row v expression c ≡ true

  -- the word names a set that has the category
  pub record NamesSetWith (w : ScopedWord) (c : ℕ) : Type 0 where
    pub set : Symbol
    pub names_set : names xs s kinds.CategorySet w set ≡ true
    pub has : v.sets set c ≡ true

  -- the equations: a word holds the category for which it stands and what the set has that it names, a range what is between, and a
  -- set just what its declarations say
  pub record AreValues : Type 0 where
    pub words : (w : ScopedWord) (c : ℕ) → (v.has w c ≡ true) ↔ (IsCategoryAt xs s row w c ⊎ NamesSetWith w c)
    pub spans : (ts : Terms ScopedWord) (c : ℕ) → (v.span ts c ≡ true) ↔ IsInSpan xs s row ts c
    pub sets : (a : Symbol) (c : ℕ) → (v.sets a c ≡ true) ↔ IsGiven a c

-- ranks fall from each set to those that its declarations name, so none depends on itself
abbrev pub IsRanked : List Item → OptSet → (Symbol → ℕ) → Type 0
IsRanked xs s rank = (a b : Symbol) → NamesSet xs s a b → rank b < rank a

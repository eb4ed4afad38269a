-- Which categories and sensitivities words stand for, by their places in the orders. CIL Reference Guide, "Multi-Level Security
-- Labeling Statements" and "Expressions".
use Rattle.std.specs.Prelude.{◌≡◌, ℕ, ◌≤◌, List, Some, slice_get}
use Rattle.cil_syntax.specs.declared.kind.Kind.{Kind}
use Rattle.cil_syntax.specs.declared.kind.Kind.TheVariants as kinds
use Rattle.cil_syntax.specs.Scopes.{ScopedWord}
use Rattle.cil_syntax.specs.Terms.{Leaf, Name, Form, Terms, nil, cons}
use Rattle.cil_macros.specs.Item.{Item, OptSet}
use Rattle.cil_names.specs.Declarations.{Symbol}
use Rattle.cil_known.specs.Members.{StandsFor}

module _ (xs : List Item) (s : OptSet) where
  -- the word, as it is or by an alias, stands for the item of this kind that is at this place of the order
  pub record IsItemAt (kind : Kind) (row : List Symbol) (w : ScopedWord) (n : ℕ) : Type 0 where
    pub symbol : Symbol
    pub stands : StandsFor xs s kind w symbol
    pub at : slice_get row n ≡ Some symbol

module _ (xs : List Item) (s : OptSet) (row : List Symbol) where
  -- the word stands for the category at this place
  abbrev pub IsCategoryAt : ScopedWord → ℕ → Type 0
  IsCategoryAt w c = IsItemAt xs s kinds.Category row w c

  -- the category is one of those from what the one word stands for to what the other does: none where that is backwards
  pub record IsBetween (v w : ScopedWord) (c : ℕ) : Type 0 where
    pub low : ℕ
    pub high : ℕ
    pub from : IsCategoryAt v low
    pub to : IsCategoryAt w high
    pub above : low ≤ c
    pub below : c ≤ high

  -- the category is in a range, which is of two words
  abbrev pub IsInSpan : Terms ScopedWord → ℕ → Type 0
  IsInSpan nil c = ⊥
  IsInSpan (cons a nil) c = ⊥
  IsInSpan (cons (Name at x) (cons b rest)) c = ⊥
  IsInSpan (cons (Form at op ts) (cons b rest)) c = ⊥
  IsInSpan (cons (Leaf v) (cons (Name at x) rest)) c = ⊥
  IsInSpan (cons (Leaf v) (cons (Form at op ts) rest)) c = ⊥
  IsInSpan (cons (Leaf v) (cons (Leaf w) nil)) c = IsBetween v w c
  IsInSpan (cons (Leaf v) (cons (Leaf w) (cons d rest))) c = ⊥

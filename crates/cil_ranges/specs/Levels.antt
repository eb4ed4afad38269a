-- The levels and ranges of terms. CIL Reference Guide, "level", "levelrange"; The SELinux Notebook, "Multi-Level Security and
-- Multi-Category Security".
use Rattle.std.specs.Prelude.{◌≡◌, ◌⊎◌, ℕ, ◌<◌, Bool, true, false, List}
use Rattle.cil_faults.specs.declared.spot.Spot.{Spot}
use Rattle.cil_syntax.specs.declared.kind.Kind.{Kind}
use Rattle.cil_syntax.specs.declared.kind.Kind.TheVariants as kinds
use Rattle.cil_syntax.specs.declared.term.Op.TheVariants as ops
use Rattle.cil_syntax.specs.Scopes.{ScopedWord}
use Rattle.cil_syntax.specs.Terms.{Term, Leaf, Name, Form, Terms, nil, cons}
use Rattle.cil_macros.specs.Item.{Item, OptSet}
use Rattle.cil_names.specs.Declarations.{Symbol}
use Rattle.cil_known.specs.Spaces.{names}
use Rattle.cil_mls.specs.attrs.SetFaults.{DeclaresAt, symbol_under}
use Rattle.cil_mls.specs.declared.level.Level.{Level}
use Rattle.cil_mls.specs.declared.level.Range.{Range}
use Rattle.cil_mls.specs.Dominance.{has}
use Rattle.cil_levels.specs.Places.{IsItemAt}
use Rattle.cil_levels.specs.Values.{Values, in_value}

-- what levels rest on: the statements, the two orders, and which categories words, ranges and sets have
pub record Ground : Type 0 where
  pub items : List Item
  pub sensitivities : List Symbol
  pub categories : List Symbol
  pub values : Values

module _ (s : OptSet) (g : Ground) where
  -- the word stands for the sensitivity at this place
  abbrev pub IsSensitivityAt : ScopedWord → ℕ → Type 0
  IsSensitivityAt w n = IsItemAt g.items s kinds.Sensitivity g.sensitivities w n

  -- what stands behind the sensitivity of a level has the category: an expression, or nothing
  abbrev pub in_behind : Terms ScopedWord → ℕ → Bool
  in_behind nil c = false
  in_behind (cons e rest) c = in_value g.categories g.values e c

  -- these terms say a level: its sensitivity, and just the categories of the expression behind
  pub record SaysLevel (ts : Terms ScopedWord) (l : Level) : Type 0 where
    pub word : ScopedWord
    pub rest : Terms ScopedWord
    pub says : ts ≡ cons (Leaf word) rest
    pub sensitivity : IsSensitivityAt word l.sensitivity
    pub categories : (c : ℕ) → c < 1024 → has l c ≡ in_behind rest c

  -- a level that is written out
  pub record IsWrittenLevel (t : Term ScopedWord) (l : Level) : Type 0 where
    pub at : Spot
    pub parts : Terms ScopedWord
    pub is_form : t ≡ Form at ops.Level parts
    pub says : SaysLevel parts l

  -- a word that names what is declared as this term
  pub record IsDeclaredAs (kind : Kind) (t declared : Term ScopedWord) : Type 0 where
    pub word : ScopedWord
    pub is_word : t ≡ Leaf word
    pub item : Item
    pub at : Spot
    pub name : List ℕ
    pub declares : DeclaresAt g.items s kind item at name
    pub says : item.args ≡ cons (Name at name) (cons declared nil)
    pub named : names g.items s kind word (symbol_under item name) ≡ true

  -- the name of a level
  pub record IsNamedLevel (t : Term ScopedWord) (l : Level) : Type 0 where
    pub declared : Term ScopedWord
    pub is_declared : IsDeclaredAs kinds.Level t declared
    pub written : IsWrittenLevel declared l

  -- the level of a term
  abbrev pub IsLevel : Term ScopedWord → Level → Type 0
  IsLevel t l = IsWrittenLevel t l ⊎ IsNamedLevel t l

  -- these terms say a range: a low and a high level
  pub record SaysRange (ts : Terms ScopedWord) (r : Range) : Type 0 where
    pub low : Term ScopedWord
    pub high : Term ScopedWord
    pub says : ts ≡ cons low (cons high nil)
    pub of_low : IsLevel low r.low
    pub of_high : IsLevel high r.high

  -- a range that is written out
  pub record IsWrittenRange (t : Term ScopedWord) (r : Range) : Type 0 where
    pub at : Spot
    pub parts : Terms ScopedWord
    pub is_form : t ≡ Form at ops.LevelRange parts
    pub says : SaysRange parts r

  -- the name of a range
  pub record IsNamedRange (t : Term ScopedWord) (r : Range) : Type 0 where
    pub declared : Term ScopedWord
    pub is_declared : IsDeclaredAs kinds.LevelRange t declared
    pub written : IsWrittenRange declared r

  -- the range of a term
  abbrev pub IsRange : Term ScopedWord → Range → Type 0
  IsRange t r = IsWrittenRange t r ⊎ IsNamedRange t r

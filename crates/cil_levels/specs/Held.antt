-- What each declared name holds is what words have in the values that solve the equations.
use Rattle.std.specs.Prelude.{◌≡◌, ◌↔◌, ℕ, ◌<◌, ◌≤◌, List, All, length}
use Rattle.cil_syntax.specs.Scopes.{ScopedWord}
use Rattle.cil_macros.specs.Item.{Item}
use Rattle.cil_names.specs.Declarations.{Symbol}
use Rattle.cil_known.specs.declared.known.Known.{Known}
use Rattle.cil_known.specs.Known.{enabled_in, meant_in}
use Rattle.cil_mls.specs.declared.expression.Held.{Held}
use Rattle.cil_mls.specs.declared.expression.Held.TheVariants.{Category}
use Rattle.cil_mls.specs.Values.{IsFew, is_held, meant_held}
use Rattle.cil_levels.specs.Places.{IsCategoryAt}
use Rattle.cil_levels.specs.Values.{AreValues, IsRanked, Values}

module _ (k : Known) (xs : List Item) (row : List Symbol) (helds : List Held) where
  -- what a word means holds a category as such just where the word stands for it
  abbrev pub HoldCategories : Type 0
  HoldCategories = (w : ScopedWord) (c : ℕ) → IsCategoryAt xs (enabled_in k) row w c ↔ (meant_held helds (meant_in k w) ≡ Category c)

  -- the names hold what words have in these values, which solve the equations; no set depends on itself, which ranks show, so there are
  -- no other such values
  pub record AreHeld (v : Values) : Type 0 where
    pub are : AreValues xs (enabled_in k) row v
    pub rank : Symbol → ℕ
    pub ranked : IsRanked xs (enabled_in k) rank
    pub count : length row ≤ 1024
    pub few : All IsFew helds
    pub categories : HoldCategories
    pub has : (w : ScopedWord) (c : ℕ) → c < 1024 → is_held c (meant_held helds (meant_in k w)) ≡ v.has w c

  -- some values solve the equations, and the names hold what words have in these
  abbrev pub HoldValues : Type 0
  HoldValues = (v : Values) × AreHeld v

-- Which categories may go with a sensitivity. CIL Reference Guide, "sensitivitycategory"; that several statements are united is this
-- project's profile.
use Rattle.std.specs.Prelude.{◌≡◌, ◌↔◌, ◌<◌, ℕ, true, List, Some, length, slice_get}
use Rattle.cil_syntax.specs.declared.kind.Keyword.TheVariants as keywords
use Rattle.cil_syntax.specs.declared.kind.Kind.TheVariants as kinds
use Rattle.cil_syntax.specs.Scopes.{ScopedWord}
use Rattle.cil_syntax.specs.Terms.{Term, Leaf, nil, cons}
use Rattle.cil_macros.specs.Item.{Item, OptSet}
use Rattle.cil_names.specs.Declarations.{Symbol}
use Rattle.cil_known.specs.Says.{Says}
use Rattle.cil_mls.specs.declared.categories.Categories.{Categories}
use Rattle.cil_mls.specs.Bits.{in_words}
use Rattle.cil_levels.specs.Places.{IsItemAt}
use Rattle.cil_levels.specs.Values.{Values, in_value}

-- some enabled statement permits the category to the sensitivity, both by their places in their orders
pub record IsPermitted (xs : List Item) (s : OptSet) (sensitivities categories : List Symbol) (v : Values) (n c : ℕ) : Type 0 where
  pub word : ScopedWord
  pub expression : Term ScopedWord
  pub says : Says xs s keywords.SensitivityCategory (cons (Leaf word) (cons expression nil))
  pub stands : IsItemAt xs s kinds.Sensitivity sensitivities word n
  pub value : in_value categories v expression c ≡ true

-- for each sensitivity, by its place, the categories that it permits
pub record ArePermitted (xs : List Item) (s : OptSet) (sensitivities categories : List Symbol) (v : Values) (sets : List Categories) : Type 0 where
  pub len : length sets ≡ length sensitivities
  pub each : (n : ℕ) (set : Categories) → slice_get sets n ≡ Some set → (c : ℕ) → c < 1024 → (in_words set.words c ≡ true) ↔ IsPermitted xs s sensitivities categories v n c

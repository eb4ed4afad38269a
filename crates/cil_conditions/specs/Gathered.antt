-- How the branches of booleanifs are gathered and numbered. No other crate needs these words.
use Rattle.std.specs.Prelude.{◌≡◌, ◌<◌, ℕ, nat_eq, true, false, List, [], ◌∷◌, Contains, find, MatchOption, Some, slice_get}
use Rattle.std.specs.List.Sorted.{IsStrictlySortedBy}
use Rattle.std.specs.Ordering.{nat_cmp, on}
use Rattle.std.specs.declared.cmp.Ordering.{Ordering}
use Rattle.cil_syntax.specs.declared.kind.Kind.{Kind}
use Rattle.cil_syntax.specs.declared.kind.Kind.TheVariants as kinds
use Rattle.cil_known.specs.blocks.Contents.{is_conditional}
use Rattle.cil_known.specs.macros.Items.{Kept, condition_at, item_at, items_in}
use Rattle.cil_known.specs.declared.known.Known.{Known}
use Rattle.cil_known.specs.Known.{IsKnown, enabled_in}
use Rattle.cil_conditions.specs.declared.found.Found.{Found}
use Rattle.cil_conditions.specs.declared.branches.Place.{Place}
use Rattle.cil_conditions.specs.declared.branch.Branch.{Branch}
use Rattle.cil_conditions.specs.Conditions.{NamesBooleans}
use Rattle.cil_conditions.specs.Spelled.{IsBranchOf}

-- ---- what is found

abbrev pub found_cmp : Found → Found → Ordering
found_cmp = on (λ f. f.at) nat_cmp

-- both branches are those of the booleanif at a place
abbrev pub AreBothOf : Kept → Known → (Kind → List (List ℕ)) → ℕ → Found → Type 0
AreBothOf i k names at f =
    IsBranchOf (items_in i) (enabled_in k) (names kinds.Boolean) (Some (condition_at i at, true)) (Some f.when_true)
    × IsBranchOf (items_in i) (enabled_in k) (names kinds.Boolean) (Some (condition_at i at, false)) (Some f.when_false)

-- the booleanifs below a place whose conditions name booleans
pub record AreFound (i : Kept) (k : Known) (end : ℕ) (found : List Found) : Type 0 where
  pub rise : IsStrictlySortedBy found_cmp found
  pub below : (f : Found) → Contains found f → f.at < end
  pub each : (names : Kind → List (List ℕ)) → IsKnown k (items_in i) names → (at : ℕ) → at < end → is_conditional (item_at i at).keyword ≡ true
      → MatchOption (find (λ f. nat_eq f.at at) found) (NamesBooleans (items_in i) (enabled_in k) (condition_at i at) → ⊥) (AreBothOf i k names at)

-- ---- their numbers

-- the two branches of what is found
abbrev pub both_in : Found → List Branch
both_in f = f.when_true ∷ f.when_false ∷ []

-- the place says where both branches are
pub record IsPlaceOf (rows : List Branch) (f : Found) (p : Place) : Type 0 where
  pub at : p.at ≡ f.at
  pub when_true : slice_get rows p.when_true ≡ Some f.when_true
  pub when_false : slice_get rows p.when_false ≡ Some f.when_false

-- one place for each that is found
abbrev pub ArePlacesOf : List Branch → List Found → List Place → Type 0
ArePlacesOf rows [] [] = Unit {0}
ArePlacesOf rows [] (p ∷ ps) = ⊥
ArePlacesOf rows (f ∷ fs) [] = ⊥
ArePlacesOf rows (f ∷ fs) (p ∷ ps) = IsPlaceOf rows f p × ArePlacesOf rows fs ps

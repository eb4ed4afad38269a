-- Which sensitivity each declared name stands for, by its place in the order. CIL Reference Guide, "sensitivity" and
-- "sensitivityalias".
use Rattle.std.specs.Prelude.{◌≡◌, ◌↔◌, ℕ, ◌<◌, List, [], ◌∷◌, Option, None, Some, get_or, length}
use Rattle.std.specs.Option.{option_map_or}
use Rattle.cil_syntax.specs.declared.kind.Kind.TheVariants as kinds
use Rattle.cil_syntax.specs.Scopes.{ScopedWord}
use Rattle.cil_macros.specs.Item.{Item}
use Rattle.cil_names.specs.Declarations.{Symbol}
use Rattle.cil_known.specs.declared.known.Known.{Known}
use Rattle.cil_known.specs.Known.{enabled_in, meant_in}
use Rattle.cil_levels.specs.Places.{IsItemAt}

-- the place that is kept for what a word of this meaning names
abbrev pub place_meant : List (Option ℕ) → Option ℕ → Option ℕ
place_meant places meaning = option_map_or (λ d. get_or places d None) meaning None

-- a word stands for a sensitivity just where its place is kept for what the word means
abbrev pub ArePlaces : Known → List Item → List Symbol → List (Option ℕ) → Type 0
ArePlaces k xs row places = (w : ScopedWord) (n : ℕ) → IsItemAt xs (enabled_in k) kinds.Sensitivity row w n ↔ (place_meant places (meant_in k w) ≡ Some n)

-- what is kept for a name that stands for these numbers: the place of the one number, and nothing where there is none
abbrev pub IsPlaceOfNumbers : (places : List ℕ) → (numbers : List ℕ) → Option ℕ → Type 0
IsPlaceOfNumbers places numbers None = numbers ≡ []
IsPlaceOfNumbers places numbers (Some p) = (n : ℕ) × (numbers ≡ n ∷ []) × (get_or places n 0 ≡ p)

-- so it is for each name
pub record ArePlacesOfNumbers (standing : List (List ℕ)) (places : List ℕ) (kept : List (Option ℕ)) : Type 0 where
  pub len : length kept ≡ length standing
  pub each : (d : ℕ) → d < length standing → IsPlaceOfNumbers places (get_or standing d []) (get_or kept d None)

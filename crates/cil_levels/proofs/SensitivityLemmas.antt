-- What is kept for names is the place of the sensitivity for which words stand.
use Rattle.std.proofs.Common.{◌≡◌, ◌⊎◌, ℕ, ◌+◌, ◌<◌, ◌≤◌, List, [], ◌∷◌, ◌++◌, get_or, length, refl, sym, ◌∙◌, ap, subst, inl, inr, arith}
use Rattle.std.specs.Prelude.{Contains, Option, None, Some}
use Rattle.std.proofs.lemmas.List.{get_or_past}
use Rattle.cil_base.specs.Lists.{contains_here, contains_none}
use Rattle.cil_base.specs.Places.{longer, none_some, some_same}
use Rattle.cil_syntax.specs.declared.kind.Keyword.TheVariants as keywords
use Rattle.cil_syntax.specs.declared.kind.Kind.{Kind}
use Rattle.cil_syntax.specs.declared.kind.Kind.TheVariants as kinds
use Rattle.cil_syntax.specs.Scopes.{ScopedWord}
use Rattle.cil_macros.specs.Item.{Item}
use Rattle.cil_known.specs.declared.known.Known.{Known}
use Rattle.cil_known.specs.Known.{enabled_in, meant_in, set_meant}
use Rattle.cil_known.specs.Numbers.{AreApart}
use Rattle.cil_mls.specs.Ordering.{AreNumbered, IsNumberedOrder}
use Rattle.cil_levels.specs.Begun.{AreInverse}
use Rattle.cil_levels.specs.Places.{IsItemAt}
use Rattle.cil_levels.specs.Sensitivities.{ArePlaces, ArePlacesOfNumbers, IsPlaceOfNumbers, place_meant}
use Rattle.cil_levels.proofs.BegunLemmas.{at_end, at_front, before_or_at}
use Rattle.cil_levels.proofs.PlaceLemmas.{by_number, its_number, only_one}

below_or_past : (d n : ℕ) → (d < n) ⊎ (n ≤ d)
below_or_past d n = grind arith

-- the names below this one have what is kept for them
pub record AreKeptUpTo (standing : List (List ℕ)) (places : List ℕ) (n : ℕ) (kept : List (Option ℕ)) : Type 0 where
  pub len : length kept ≡ n
  pub each : (d : ℕ) → d < n → IsPlaceOfNumbers places (get_or standing d []) (get_or kept d None)

pub kept_more : (standing : List (List ℕ)) (places : List ℕ) (n : ℕ) (kept : List (Option ℕ)) (p : Option ℕ) → IsPlaceOfNumbers places (get_or standing n []) p → AreKeptUpTo standing places n kept → AreKeptUpTo standing places (n + 1) (kept ++ p ∷ [])
kept_more standing places n kept p is are =
    let len = are.len in
    record {
      len = let m = longer kept p in omega (arith, m, len);
      each = λ d l. elim (before_or_at d n l) [
        | inl before ↦ subst (IsPlaceOfNumbers places (get_or standing d [])) (sym (at_front kept p None d (omega (arith, before, len)))) (are.each d before)
        | inr here ↦
            let same : d ≡ length kept = omega (arith, here, len) in
            subst (λ j. IsPlaceOfNumbers places (get_or standing j []) (get_or (kept ++ p ∷ []) j None)) (sym same)
            (subst (IsPlaceOfNumbers places (get_or standing (length kept) [])) (sym (at_end kept p None)) (subst (λ j. IsPlaceOfNumbers places (get_or standing j []) p) (sym len) is))
      ];
    }

module _ (places : List ℕ) where
  -- what is kept for a name that stands for this number
  kept_for : (n c : ℕ) (numbers : List ℕ) (p : Option ℕ) → IsPlaceOfNumbers places numbers p → Contains numbers n → get_or places n 0 ≡ c → p ≡ Some c
  kept_for n c numbers None is h place = absurd (contains_none n (subst (λ l. Contains l n) is h))
  kept_for n c numbers (Some p) is h place =
      let same : is.0 ≡ n = only_one is.0 n (subst (λ l. Contains l n) is.1 h) in
      ap Some (sym is.2 ∙ ap (λ z. get_or places z 0) same ∙ place)

  -- and back
  kept_number : (c : ℕ) (numbers : List ℕ) (p : Option ℕ) → p ≡ Some c → IsPlaceOfNumbers places numbers p → (n : ℕ) × Contains numbers n × (get_or places n 0 ≡ c)
  kept_number c numbers None e is = absurd (none_some c e)
  kept_number c numbers (Some p) e is = (is.0, subst (λ l. Contains l is.0) (sym is.1) (contains_here is.0 []), is.2 ∙ some_same p c e)

module _ (k : Known) (xs : List Item) (sections : Kind → List (List ℕ)) (names : List (List ℕ)) (sets : List (List ℕ)) (are : AreNumbered k xs sections kinds.Sensitivity names sets) (apart : AreApart k.lookup.names.now (enabled_in k) k.numbers.now)
    (numbers : List ℕ) (order : IsNumberedOrder xs (enabled_in k) kinds.Sensitivity keywords.SensitivityOrder names numbers) (places : List ℕ) (inverse : AreInverse numbers places) (kept : List (Option ℕ)) (each : ArePlacesOfNumbers sets places kept) where
  -- past the last name there is nothing
  at_each : (d : ℕ) → IsPlaceOfNumbers places (get_or sets d []) (get_or kept d None)
  at_each d =
      let len = each.len in
      elim (below_or_past d (length sets)) [
        | inl below ↦ each.each d below
        | inr past ↦
            subst (λ l. IsPlaceOfNumbers places l (get_or kept d None)) (sym (get_or_past sets d [] past))
            (subst (IsPlaceOfNumbers places []) (sym (get_or_past kept d None (omega (arith, past, len)))) refl)
      ]

  stands_kept : (w : ScopedWord) (c : ℕ) → IsItemAt xs (enabled_in k) kinds.Sensitivity order.row w c → place_meant kept (meant_in k w) ≡ Some c
  stands_kept w c it =
      let (n, there, at, place) = its_number k xs sections kinds.Sensitivity names sets are refl apart keywords.SensitivityOrder numbers order places inverse w c it in by n place (meant_in k w) there
    where
      by : (n : ℕ) → get_or places n 0 ≡ c → (r : Option ℕ) → Contains (set_meant sets r) n → place_meant kept r ≡ Some c
      by n place None h = absurd (contains_none n h)
      by n place (Some d) h = kept_for places n c (get_or sets d []) (get_or kept d None) (at_each d) h place

  kept_stands : (w : ScopedWord) (c : ℕ) → place_meant kept (meant_in k w) ≡ Some c → IsItemAt xs (enabled_in k) kinds.Sensitivity order.row w c
  kept_stands w c e = by (meant_in k w) refl e where
    by : (r : Option ℕ) → meant_in k w ≡ r → place_meant kept r ≡ Some c → IsItemAt xs (enabled_in k) kinds.Sensitivity order.row w c
    by None means h = absurd (none_some c h)
    by (Some d) means h =
        let (n, is_n, place) = kept_number places c (get_or sets d []) (get_or kept d None) h (at_each d) in
        by_number k xs sections kinds.Sensitivity names sets are refl apart keywords.SensitivityOrder numbers order places inverse w n c (subst (λ o. Contains (set_meant sets o) n) (sym means) is_n) place

  -- a word stands for what is at the place that is kept for what it means
  pub are_places : ArePlaces k xs order.row kept
  are_places w n = (stands_kept w n, kept_stands w n)

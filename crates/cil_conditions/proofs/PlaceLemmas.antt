-- The branches of booleanifs, put in order and numbered.
use Rattle.std.specs.Option.{option_map}
use Rattle.std.specs.Prelude.{Contains, IfOk, MatchOption, MatchResult, None, Ok, Err, Option, Result, Some, find, nat_eq, slice_get}
use Rattle.std.specs.List.{flat_map}
use Rattle.std.specs.List.Retain.{DiffersFromLast, IsFiltered}
use Rattle.std.specs.List.Sorted.{IsBinarySearchResult, IsPermutation, IsSearchInRange, IsSorted, IsStrictlySortedBy}
use Rattle.std.specs.Ordering.{eq_by_cmp, nat_cmp}
use Rattle.std.specs.declared.cmp.Ordering.TheVariants.{Less}
use Rattle.std.proofs.Common.{◌≡◌, ℕ, ◌+◌, ◌<◌, ◌≤◌, Bool, true, false, if◌then◌else◌, List, [], ◌∷◌, ◌++◌, get_or, length, take, refl, sym, ◌∙◌, ap, subst, inl, inr}
use Rattle.std.proofs.lemmas.Cmp.{nat_cmp_total}
use Rattle.std.proofs.lemmas.Map.Lookups.{exact_unsigned}
use Rattle.cil_base.proofs.SearchLemmas.{searched}
use Rattle.cil_base.proofs.SortedLists.{sorted_list}
use Rattle.cil_base.specs.Found.{IsFound, IsMissing}
use Rattle.cil_base.specs.Lists.{Lists, all_at, contains_cases, contains_here, contains_later, contains_none}
use Rattle.cil_base.specs.MadeLists.{contains_flat}
use Rattle.cil_base.specs.Places.{contains_at, get_at}
use Rattle.cil_base.specs.Rising.{rising_in_front}
use Rattle.cil_syntax.specs.declared.kind.Kind.{Kind}
use Rattle.cil_syntax.specs.declared.kind.Kind.TheVariants as kinds
use Rattle.cil_known.specs.macros.Items.{Kept, condition_at, items_in}
use Rattle.cil_known.specs.declared.known.Known.{Known}
use Rattle.cil_known.specs.Known.{IsKnown, enabled_in}
use Rattle.std.proofs.lemmas.List.{take_all, take_more}
use Rattle.cil_conditions.specs.declared.branch.Branch.{Branch}
use Rattle.cil_conditions.specs.declared.found.Found.{Found}
use Rattle.cil_conditions.specs.declared.branches.Place.{Place}
use Rattle.cil_conditions.specs.Conditions.{NamesBooleans}
use Rattle.cil_conditions.specs.Gathered.{AreBothOf, AreFound, ArePlacesOf, IsPlaceOf, both_in, found_cmp}
use Rattle.cil_conditions.specs.Numbered.{AreBranchesOf, number_for, place_cmp}
use Rattle.cil_conditions.specs.Order.{branch_cmp, branch_total}
use Rattle.cil_conditions.specs.Spelled.{IsBranchOf}
use Rattle.cil_conditions.proofs.OrderLemmas.{one_branch}

-- what a search by halving for a place answers
pub place_searched : (places : List Place) (at : ℕ) (r : Result ℕ ℕ) → IsStrictlySortedBy place_cmp places → IsSearchInRange r (length places)
    → IsBinarySearchResult (λ p. nat_cmp p.at at) places r → MatchResult r (IsFound (λ (p : Place). p.at) places at) (λ _. IsMissing (λ (p : Place). p.at) places at)
place_searched places at r up range result = searched (λ (p : Place). p.at) nat_cmp nat_cmp_total exact_unsigned places at r up range result

-- ---- rows

-- some branches, sorted and without repeats
pub branches_listed : (xs ys zs : List Branch) → IsPermutation xs ys → IsSorted branch_cmp ys → IsFiltered (DiffersFromLast (eq_by_cmp branch_cmp)) [] ys zs → Lists branch_cmp (Contains xs) zs
branches_listed xs ys zs moved sorted kept = sorted_list branch_cmp branch_total one_branch xs ys zs moved sorted kept

-- what a search by halving for a branch answers
module _ (rows : List Branch) (branch : Branch) (up : IsStrictlySortedBy branch_cmp rows) (r : Result ℕ ℕ) (range : IsSearchInRange r (length rows))
    (result : IsBinarySearchResult (λ x. branch_cmp x branch) rows r) where
  answer : MatchResult r (IsFound (λ (x : Branch). x) rows branch) (λ _. IsMissing (λ (x : Branch). x) rows branch)
  answer = searched (λ (x : Branch). x) branch_cmp branch_total one_branch rows branch r up range result

  pub branch_at : (n : ℕ) → r ≡ Ok n → slice_get rows n ≡ Some branch
  branch_at n e =
      let is : IsFound (λ (x : Branch). x) rows branch n = subst (λ z. MatchResult z (IsFound (λ (x : Branch). x) rows branch) (λ _. IsMissing (λ (x : Branch). x) rows branch)) e answer in
      is.at ∙ ap Some is.has_key

  pub branch_there : (n : ℕ) → r ≡ Err n → Contains rows branch → ⊥
  branch_there n e has =
      let none : IsMissing (λ (x : Branch). x) rows branch = subst (λ z. MatchResult z (IsFound (λ (x : Branch). x) rows branch) (λ _. IsMissing (λ (x : Branch). x) rows branch)) e answer in
      let g = get_at rows branch has in none g.0 branch g.2 refl

-- what is said of a number, said otherwise
pub then_ok : {E : Type 0} (P Q : ℕ → Type 0) (r : Result ℕ E) → ((n : ℕ) → P n → Q n) → IfOk r P → IfOk r Q
then_ok P Q (Ok n) so h = so n h
then_ok P Q (Err e) so h = tt

-- ---- places

pub places_more : (rows : List Branch) (fs : List Found) (ps : List Place) (f : Found) (p : Place) → ArePlacesOf rows fs ps → IsPlaceOf rows f p → ArePlacesOf rows (fs ++ f ∷ []) (ps ++ p ∷ [])
places_more rows [] [] f p old one = (one, tt)
places_more rows [] (q ∷ qs) f p old one = absurd old
places_more rows (g ∷ gs) [] f p old one = absurd old
places_more rows (g ∷ gs) (q ∷ qs) f p old one = (old.0, places_more rows gs qs f p old.1 one)

pub place_more : (rows : List Branch) (fs : List Found) (i : ℕ) (f d : Found) (ps new : List Place) (p : Place) → i < length fs → f ≡ get_or fs i d → ArePlacesOf rows (take i fs) ps
    → IsPlaceOf rows f p → new ≡ ps ++ p ∷ [] → ArePlacesOf rows (take (i + 1) fs) new
place_more rows fs i f d ps new p within is so_far one push =
    let taken : take (i + 1) fs ≡ take i fs ++ f ∷ [] = take_more fs i d within ∙ ap (λ g. take i fs ++ g ∷ []) (sym is) in
    subst (ArePlacesOf rows (take (i + 1) fs)) (sym push)
    (subst (λ gs. ArePlacesOf rows gs (ps ++ p ∷ [])) (sym taken) (places_more rows (take i fs) ps f p so_far one))

pub places_all : (rows : List Branch) (fs : List Found) (i : ℕ) (ps : List Place) → length fs ≤ i → ArePlacesOf rows (take i fs) ps → ArePlacesOf rows fs ps
places_all rows fs i ps over are = subst (λ gs. ArePlacesOf rows gs ps) (take_all i fs over) are

pub placed_so : (rows rs : List Branch) (fs gs : List Found) (ps : List Place) → rows ≡ rs → fs ≡ gs → ArePlacesOf rows fs ps → ArePlacesOf rs gs ps
placed_so rows rs fs gs ps e f are = subst (λ l. ArePlacesOf l gs ps) e (subst (λ l. ArePlacesOf rows l ps) f are)

-- both branches of what is found are among the rows
pub true_there : (rows : List Branch) (fs : List Found) (i : ℕ) (f d : Found) → Lists branch_cmp (Contains (flat_map both_in fs)) rows → i < length fs → f ≡ get_or fs i d → Contains rows f.when_true
true_there rows fs i f d list within is =
    (list.members f.when_true).1 (contains_flat both_in fs f f.when_true (contains_at fs i f d within is) (contains_here f.when_true (f.when_false ∷ [])))

pub false_there : (rows : List Branch) (fs : List Found) (i : ℕ) (f d : Found) → Lists branch_cmp (Contains (flat_map both_in fs)) rows → i < length fs → f ≡ get_or fs i d → Contains rows f.when_false
false_there rows fs i f d list within is =
    (list.members f.when_false).1 (contains_flat both_in fs f f.when_false (contains_at fs i f d within is) (contains_later f.when_false f.when_true (f.when_false ∷ []) (contains_here f.when_false [])))

-- each place is that of something found
place_of : (rows : List Branch) (fs : List Found) (ps : List Place) → ArePlacesOf rows fs ps → (p : Place) → Contains ps p → (f : Found) × Contains fs f × IsPlaceOf rows f p
place_of rows [] [] are p c = absurd (contains_none p c)
place_of rows [] (q ∷ qs) are p c = absurd are
place_of rows (g ∷ gs) [] are p c = absurd are
place_of rows (g ∷ gs) (q ∷ qs) are p c =
    elim (contains_cases p q qs c) [
      | inl e ↦ (g, contains_here g gs, subst (IsPlaceOf rows g) e are.0)
      | inr d ↦ let r = place_of rows gs qs are.1 p d in (r.0, contains_later r.0 g gs r.1, r.2)
    ]

pub places_rise : (rows : List Branch) (fs : List Found) (ps : List Place) → ArePlacesOf rows fs ps → IsStrictlySortedBy found_cmp fs → IsStrictlySortedBy place_cmp ps
unfolding IsStrictlySortedBy
places_rise rows [] [] are up = tt
places_rise rows [] (q ∷ qs) are up = absurd are
places_rise rows (g ∷ gs) [] are up = absurd are
places_rise rows (g ∷ gs) (q ∷ qs) are up =
    rising_in_front place_cmp q qs (λ p c.
    let r = place_of rows gs qs are.1 p c in
    (λ j. nat_cmp (are.0.at j) (r.2.at j)) ∙ all_at (λ z. found_cmp g z ≡ Less) gs r.0 up.0 r.1)
    (places_rise rows gs qs are.1 up.1)

-- ---- the numbers

-- what is found of a booleanif, and where its branches are
abbrev ArePlaced : List Branch → Option Found → Option Place → Type 0
ArePlaced rows None None = Unit {0}
ArePlaced rows None (Some p) = ⊥
ArePlaced rows (Some f) None = ⊥
ArePlaced rows (Some f) (Some p) = IsPlaceOf rows f p

placed_step : (rows : List Branch) (g : Found) (q : Place) (o : Option Found) (r : Option Place) (a b : Bool) → a ≡ b → IsPlaceOf rows g q → ArePlaced rows o r
    → ArePlaced rows (if a then Some g else o) (if b then Some q else r)
placed_step rows g q o r true true e one rest = one
placed_step rows g q o r true false e one rest = absurd (cc)
placed_step rows g q o r false true e one rest = absurd (cc)
placed_step rows g q o r false false e one rest = rest

placed_find : (rows : List Branch) (at : ℕ) (fs : List Found) (ps : List Place) → ArePlacesOf rows fs ps → ArePlaced rows (find (λ f. nat_eq f.at at) fs) (find (λ p. nat_eq p.at at) ps)
placed_find rows at [] [] are = tt
placed_find rows at [] (q ∷ qs) are = absurd are
placed_find rows at (g ∷ gs) [] are = absurd are
placed_find rows at (g ∷ gs) (q ∷ qs) are =
    placed_step rows g q _ _ (nat_eq g.at at) (nat_eq q.at at) (ap (λ (n : ℕ). nat_eq n at) (sym are.0.at)) are.0 (placed_find rows at gs qs are.1)

module _ (i : Kept) (k : Known) (names : Kind → List (List ℕ)) (at : ℕ) (rows : List Branch) where
  abbrev HasRow : Bool → ℕ → Type 0
  HasRow value n = (r : Branch) × (slice_get rows n ≡ Some r) × IsBranchOf (items_in i) (enabled_in k) (names kinds.Boolean) (Some (condition_at i at, value)) (Some r)

  numbered : (value : Bool) (o : Option Found) (q : Option Place) → ArePlaced rows o q → MatchOption o (NamesBooleans (items_in i) (enabled_in k) (condition_at i at) → ⊥) (AreBothOf i k names at)
      → MatchOption (option_map (number_for value) q) (NamesBooleans (items_in i) (enabled_in k) (condition_at i at) → ⊥) (HasRow value)
  numbered value None None placed none = none
  numbered value None (Some p) placed none = absurd placed
  numbered value (Some f) None placed both = absurd placed
  numbered true (Some f) (Some p) placed both = (f.when_true, placed.when_true, both.0)
  numbered false (Some f) (Some p) placed both = (f.when_false, placed.when_false, both.1)

pub branches_are : (i : Kept) (k : Known) (rows : List Branch) (fs : List Found) (ps : List Place) → IsStrictlySortedBy branch_cmp rows → AreFound i k (length (items_in i)) fs → ArePlacesOf rows fs ps
    → (names : Kind → List (List ℕ)) → IsKnown k (items_in i) names → AreBranchesOf i (enabled_in k) (names kinds.Boolean) (record { rows = rows; places = ps })
branches_are i k rows fs ps up found placed names known = record {
  rise = up;
  each = λ at value is within.
      numbered i k names at rows value (find (λ f. nat_eq f.at at) fs) (find (λ p. nat_eq p.at at) ps) (placed_find rows at fs ps placed) (found.each names known at within is);
}

-- Search by halving in a rising list of names: what std's search answers.
use Rattle.std.proofs.Common.{◌≡◌, ℕ, List, length, refl, ◌∙◌, ap}
use Rattle.std.specs.Prelude.{Some, Result, Ok, Err, MatchResult, slice_get}
use Rattle.std.specs.List.Sorted.{IsBinarySearchResult, IsSearchInRange, IsStrictlySortedBy}
use Rattle.std.proofs.lemmas.Cmp.{nat_list_cmp_total}
use Rattle.std.proofs.lemmas.Map.Lookups.{exact_bytes}
use Rattle.cil_base.specs.Lists.{text_cmp}
use Rattle.cil_base.proofs.SearchLemmas.{one_number, searched}
use Rattle.cil_base.specs.NameNumbers.{IsNumberOf}

-- a name has one number in a rising list
pub number_is : (names : List (List ℕ)) (name : List ℕ) (n : ℕ) → slice_get names n ≡ Some name → IsStrictlySortedBy text_cmp names → IsNumberOf names name n
number_is names name n at rising = record { at = at; only = λ k e. one_number (λ x. x) text_cmp nat_list_cmp_total exact_bytes names k n name name rising e at refl }

-- what a search answers in a rising list of names
pub name_searched : (names : List (List ℕ)) (name : List ℕ) (r : Result ℕ ℕ) → IsStrictlySortedBy text_cmp names → IsSearchInRange r (length names)
    → IsBinarySearchResult (λ x. text_cmp x name) names r
    → MatchResult r (IsNumberOf names name) (λ _. (n : ℕ) → slice_get names n ≡ Some name → ⊥)
name_searched names name (Ok n) up range result =
    let is = searched (λ x. x) text_cmp nat_list_cmp_total exact_bytes names name (Ok n) up range result in
    record { at = is.at ∙ ap Some is.has_key; only = λ k e. is.only k name e refl }
name_searched names name (Err n) up range result = λ k e.
    searched (λ x. x) text_cmp nat_list_cmp_total exact_bytes names name (Err n) up range result k name e refl

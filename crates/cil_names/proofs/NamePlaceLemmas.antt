-- The place of a name among names, and whether it is listed there.
use Rattle.std.proofs.Common.{◌≡◌, ℕ, List, refl, sym, inl, inr}
use Rattle.std.specs.Prelude.{MatchOption, Option, Some, None, slice_get}
use Rattle.std.specs.List.{list_any}
use Rattle.std.specs.List.Sorted.{IsStrictlySortedBy}
use Rattle.std.specs.Option.{is_some}
use Rattle.std.specs.Cmp.Lexicographic.{bytes_decides}
use Rattle.std.proofs.lemmas.Bool.{cases_Bool}
use Rattle.cil_base.specs.Lists.{text_cmp}
use Rattle.cil_base.specs.Searches.{any_from, any_true}
use Rattle.cil_base.specs.Places.{get_at, get_contains}
use Rattle.cil_syntax.specs.Spelling.{same_bytes}
use Rattle.cil_names.specs.Entries.{place_where}
use Rattle.cil_base.specs.Found.{IsFound, IsMissing}
use Rattle.std.proofs.lemmas.Cmp.{nat_list_cmp_total}
use Rattle.std.proofs.lemmas.Map.Lookups.{exact_bytes}
use Rattle.cil_base.proofs.SearchLemmas.{one_number}
use Rattle.cil_names.proofs.AnswerLemmas.{none_where}
use Rattle.cil_names.proofs.CandidateLemmas.{place_is, place_none, place_some}

pub place_found : (names : List (List ℕ)) (name : List ℕ) (r : Option ℕ) → MatchOption r (IsMissing (λ x. x) names name) (IsFound (λ x. x) names name)
    → r ≡ place_where (λ x. same_bytes x name) names
place_found names name (Some n) f =
    sym (place_some (λ x. same_bytes x name) names n f.item f.at ((bytes_decides f.item name).1 f.has_key) (λ m x at t. f.only m x at ((bytes_decides x name).0 t)))
place_found names name None none = sym (place_none (λ x. same_bytes x name) names (λ m x at t. none m x at ((bytes_decides x name).0 t)))

-- a name that stands at a place of rising names has this place
pub its_place : (names : List (List ℕ)) (name : List ℕ) (n : ℕ) → IsStrictlySortedBy text_cmp names → slice_get names n ≡ Some name → Some n ≡ place_where (λ x. same_bytes x name) names
its_place names name n up at =
    place_found names name (Some n)
    (record { item = name; at = at; has_key = refl; only = λ m x is same. one_number (λ x. x) text_cmp nat_list_cmp_total exact_bytes names m n x name up is at same })

-- a name is listed where it has a place
some_listed : (names : List (List ℕ)) (name : List ℕ) (r : Option ℕ) → place_where (λ x. same_bytes x name) names ≡ r → is_some r ≡ list_any (same_bytes name) names
some_listed names name (Some n) e =
    let (x, at, t) = place_is (λ x. same_bytes x name) names n e in
    sym (any_from (same_bytes name) names x (get_contains names n x at) ((bytes_decides name x).1 (sym ((bytes_decides x name).0 t))))
some_listed names name None e =
    elim (cases_Bool (list_any (same_bytes name) names)) [
      | inl t ↦
          let (x, c, u) = any_true (same_bytes name) names t in
          let (m, below_m, at) = get_at names x c in
          absurd (none_where (λ x. same_bytes x name) names e m x at ((bytes_decides x name).1 (sym ((bytes_decides name x).0 u))))
      | inr f ↦ sym f
    ]

pub is_listed_by : (names : List (List ℕ)) (name : List ℕ) (r : Option ℕ) → r ≡ place_where (λ x. same_bytes x name) names → is_some r ≡ list_any (same_bytes name) names
is_listed_by names name r e = some_listed names name r (sym e)

-- The sets of rules rise, and each has its number.
use Rattle.std.specs.Prelude.{Contains, IfOk, MatchResult, Result, Ok, Err, Some, slice_get, ◌⊎◌}
use Rattle.std.specs.Ordering.{eq_by_cmp, ordering_then}
use Rattle.std.specs.declared.cmp.Ordering.TheVariants.{Less, Equal}
use Rattle.std.specs.List.Retain.{DiffersFromLast, IsFiltered}
use Rattle.std.specs.List.Sorted.{IsBinarySearchResult, IsPermutation, IsSearchInRange, IsSorted, IsStrictlySortedBy}
use Rattle.std.proofs.Common.{◌≡◌, ℕ, zero, suc, ◌+◌, ◌<◌, ◌≤◌, List, [], ◌∷◌, length, refl, sym, ◌∙◌, ap, subst, inl, inr, arith}
use Rattle.std.proofs.lemmas.List.Elements.{Contains-append_cases}
use Rattle.std.proofs.lemmas.List.{length-append}
use Rattle.std.proofs.lemmas.Map.Lookups.{exact_bytes}
use Rattle.cil_base.proofs.SearchLemmas.{searched}
use Rattle.cil_base.proofs.SortedLists.{sorted_list}
use Rattle.cil_base.specs.Found.{IsFound, IsMissing}
use Rattle.cil_base.specs.Lists.{Lists, contains_cases, contains_none, text_cmp}
use Rattle.cil_base.specs.Paths.{less_from}
use Rattle.cil_base.specs.Places.{cons_tail, get_at, get_behind, is_there}
use Rattle.cil_base.specs.Rising.{rising_in_front, rising_join, rising_nothing}
use Rattle.cil_sets.specs.Answers.{set_cmp, set_fields, set_total}
use Rattle.cil_index.specs.Sets.{AreSeveral, IsSmallNumber, all_sets, small_sets}
use Rattle.cil_index.proofs.SetLemmas.{empty_there, length-small, small_there}

pub one_set : (a b : List ℕ) → set_cmp a b ≡ Equal → a ≡ b
one_set a b e = cons_tail (length a) (length b) a b (exact_bytes (set_fields a) (set_fields b) e)

-- a small set is empty, or one type alone
small_member : (n : ℕ) (x : List ℕ) → Contains (small_sets n) x → (x ≡ []) ⊎ ((k : ℕ) × (k < n) × (x ≡ k ∷ []))
unfolding small_sets
small_member zero x c = elim (contains_cases x [] [] c) [ inl e ↦ inl (sym e) | inr none ↦ absurd (contains_none x none) ]
small_member (suc n) x c = elim (Contains-append_cases (small_sets n) ((n ∷ []) ∷ []) x c) [
  | inl d ↦ elim (small_member n x d) [ inl e ↦ inl e | inr m ↦ let l = m.1 in inr (m.0, omega (arith, l), m.2) ]
  | inr d ↦ elim (contains_cases x (n ∷ []) [] d) [ inl e ↦ inr (n, omega arith, sym e) | inr none ↦ absurd (contains_none x none) ]
]

empty_below : (y : List ℕ) → 1 ≤ length y → set_cmp [] y ≡ Less
empty_below y l = ap (λ o. ordering_then o (text_cmp [] y)) (less_from 0 (length y) (omega (arith, l)))

ones_below : (k n : ℕ) → k < n → set_cmp (k ∷ []) (n ∷ []) ≡ Less
ones_below k n l = ap (λ o. ordering_then o Equal) (less_from k n l)

one_below : (k : ℕ) (y : List ℕ) → 2 ≤ length y → set_cmp (k ∷ []) y ≡ Less
one_below k y l = ap (λ o. ordering_then o (text_cmp (k ∷ []) y)) (less_from 1 (length y) (omega (arith, l)))

small_rise : (n : ℕ) → IsStrictlySortedBy set_cmp (small_sets n)
unfolding small_sets
small_rise zero = rising_in_front set_cmp [] [] (λ y c. absurd (contains_none y c)) (rising_nothing set_cmp)
small_rise (suc n) =
    rising_join set_cmp (small_sets n) ((n ∷ []) ∷ []) (small_rise n) (rising_in_front set_cmp (n ∷ []) [] (λ y c. absurd (contains_none y c)) (rising_nothing set_cmp))
    (λ x y c d. elim (contains_cases y (n ∷ []) [] d) [
      | inl e ↦ subst (λ z. set_cmp x z ≡ Less) e (elim (small_member n x c) [
        | inl none ↦ ap (λ z. set_cmp z (n ∷ [])) none ∙ empty_below (n ∷ []) (omega arith)
        | inr m ↦ ap (λ z. set_cmp z (n ∷ [])) m.2 ∙ ones_below m.0 n m.1
      ])
      | inr none ↦ absurd (contains_none y none)
    ])

-- all sets stand in their order
pub sets_rise : (ones : ℕ) (several : List (List ℕ)) → AreSeveral several → IsStrictlySortedBy set_cmp several → IsStrictlySortedBy set_cmp (all_sets ones several)
unfolding all_sets
sets_rise ones several many up =
    rising_join set_cmp (small_sets ones) several (small_rise ones) up
    (λ x y c d. elim (small_member ones x c) [
      | inl none ↦ ap (λ z. set_cmp z y) none ∙ empty_below y (let l = many y d in omega (arith, l))
      | inr m ↦ ap (λ z. set_cmp z y) m.2 ∙ one_below m.0 y (many y d)
    ])

-- what a sort leaves without its repeats
pub sets_listed : (xs ys zs : List (List ℕ)) → IsPermutation xs ys → IsSorted set_cmp ys → IsFiltered (DiffersFromLast (eq_by_cmp set_cmp)) [] ys zs → Lists set_cmp (Contains xs) zs
sets_listed xs ys zs moved sorted kept = sorted_list set_cmp set_total one_set xs ys zs moved sorted kept

-- ---- numbers

whole : (ones : ℕ) (several : List (List ℕ)) → length (all_sets ones several) ≡ suc ones + length several
unfolding all_sets
whole ones several = let a = length-append (small_sets ones) several in let b = length-small ones in omega (arith, a, b)

abbrev head : List ℕ → ℕ
head [] = 0
head (x ∷ xs) = x

one_there : (ones : ℕ) (several : List (List ℕ)) (t : ℕ) → AreSeveral several → Contains (all_sets ones several) (t ∷ []) → t < ones
unfolding all_sets
one_there ones several t many c = elim (Contains-append_cases (small_sets ones) several (t ∷ []) c) [
  | inl d ↦ elim (small_member ones (t ∷ []) d) [
    | inl none ↦ let size : 1 ≡ 0 = ap (λ (z : List ℕ). length z) none in absurd (omega (arith, size))
    | inr m ↦ let same : t ≡ m.0 = ap head m.2 in let l = m.1 in omega (arith, same, l)
  ]
  | inr d ↦ let l = many (t ∷ []) d in absurd (omega (arith, l))
]

long_there : (ones : ℕ) (several : List (List ℕ)) (numbers : List ℕ) → 2 ≤ length numbers → Contains (all_sets ones several) numbers → Contains several numbers
unfolding all_sets
long_there ones several numbers many c = elim (Contains-append_cases (small_sets ones) several numbers c) [
  | inl d ↦ elim (small_member ones numbers d) [
    | inl none ↦ let size : length numbers ≡ 0 = ap (λ (z : List ℕ). length z) none in absurd (omega (arith, size, many))
    | inr m ↦ let size : length numbers ≡ 1 = ap (λ (z : List ℕ). length z) m.2 in absurd (omega (arith, size, many))
  ]
  | inr d ↦ d
]

place_behind : (ones : ℕ) (several : List (List ℕ)) (place n : ℕ) → n ≡ suc (place + ones) → slice_get (all_sets ones several) n ≡ slice_get several place
unfolding all_sets
place_behind ones several place n next = let size = length-small ones in get_behind (small_sets ones) several place n (omega (arith, size, next))

module _ (ones : ℕ) (several sets : List (List ℕ)) (view : all_sets ones several ≡ sets) where
  pub empty_number : (numbers : List ℕ) → numbers ≡ [] → slice_get sets 0 ≡ Some numbers
  empty_number numbers e =
      subst (λ z. slice_get z 0 ≡ Some numbers) view
      (is_there (all_sets ones several) 0 [] (let size = whole ones several in omega (arith, size)) ∙ ap Some (empty_there ones several ∙ sym e))

  pub one_number : (numbers : List ℕ) (t n : ℕ) → numbers ≡ t ∷ [] → AreSeveral several → Contains sets numbers → n ≡ suc t → slice_get sets n ≡ Some numbers
  one_number numbers t n is many has next =
      let below : t < ones = one_there ones several t many (subst (Contains (all_sets ones several)) is (subst (λ z. Contains z numbers) (sym view) has)) in
      subst (λ z. slice_get z n ≡ Some numbers) view
      (ap (slice_get (all_sets ones several)) next
      ∙ is_there (all_sets ones several) (suc t) [] (let size = whole ones several in omega (arith, size, below)) ∙ ap Some (small_there ones t several below ∙ sym is))

  pub small_is : AreSeveral several → (numbers : List ℕ) (n : ℕ) → Contains sets numbers → IsSmallNumber numbers n → slice_get sets n ≡ Some numbers
  small_is many [] n has is = subst (λ k. slice_get sets k ≡ Some []) (sym is) (empty_number [] refl)
  small_is many (t ∷ more) n has is = one_number (t ∷ more) t n (ap (λ ts. t ∷ ts) is.0) many has is.1

  pub several_number : (place n : ℕ) (set numbers : List ℕ) → slice_get several place ≡ Some set → set ≡ numbers → n ≡ suc (place + ones) → slice_get sets n ≡ Some numbers
  several_number place n set numbers at is next =
      subst (λ z. slice_get z n ≡ Some numbers) view (place_behind ones several place n next ∙ at ∙ ap Some is)

  pub several_there : (numbers : List ℕ) → 2 ≤ length numbers → Contains sets numbers → Contains several numbers
  several_there numbers many has = long_there ones several numbers many (subst (λ z. Contains z numbers) (sym view) has)

-- ---- the search

in_several : (several slice : List (List ℕ)) (set : List ℕ) (r : Result ℕ ℕ) → slice ≡ several → IsStrictlySortedBy set_cmp several → IsSearchInRange r (length slice)
    → IsBinarySearchResult (λ x. set_cmp x set) slice r → MatchResult r (IsFound (λ x. x) several set) (λ m. IsMissing (λ x. x) several set)
in_several several slice set r same up range result =
    searched (λ x. x) set_cmp set_total one_set several set r up (subst (λ z. IsSearchInRange r (length z)) same range) (subst (λ z. IsBinarySearchResult (λ x. set_cmp x set) z r) same result)

module _ (several slice : List (List ℕ)) (set : List ℕ) (same : slice ≡ several) (up : IsStrictlySortedBy set_cmp several) (r : Result ℕ ℕ)
    (range : IsSearchInRange r (length slice)) (result : IsBinarySearchResult (λ x. set_cmp x set) slice r) where
  pub found_at : (place : ℕ) → r ≡ Ok place → slice_get several place ≡ Some set
  found_at place e =
      let is : IsFound (λ x. x) several set place =
      subst (λ z. MatchResult z (IsFound (λ x. x) several set) (λ m. IsMissing (λ x. x) several set)) e (in_several several slice set r same up range result) in
      is.at ∙ ap Some is.has_key

  pub not_missing : (place : ℕ) → r ≡ Err place → Contains several set → ⊥
  not_missing place e has =
      let none : IsMissing (λ x. x) several set =
      subst (λ z. MatchResult z (IsFound (λ x. x) several set) (λ m. IsMissing (λ x. x) several set)) e (in_several several slice set r same up range result) in
      let at = get_at several set has in none at.0 set at.2 refl

-- what is said of a number, said otherwise
pub then_ok : {E : Type 0} (P Q : ℕ → Type 0) (r : Result ℕ E) → ((n : ℕ) → P n → Q n) → IfOk r P → IfOk r Q
then_ok P Q (Ok n) so h = so n h
then_ok P Q (Err e) so h = tt

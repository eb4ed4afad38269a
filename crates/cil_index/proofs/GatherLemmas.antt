-- Sets that are gathered, in any order.
use Rattle.std.specs.Prelude.{Contains, Some, slice_get}
use Rattle.std.proofs.Common.{◌≡◌, ℕ, zero, suc, ◌+◌, ◌<◌, ◌≤◌, List, [], ◌∷◌, ◌++◌, length, get_or, take, refl, sym, ◌∙◌, ap, subst, inl, inr, arith}
use Rattle.std.proofs.lemmas.Bool.{cases_lt}
use Rattle.std.proofs.Math.ListN.{get_or-append, get_or-eq_default}
use Rattle.std.proofs.Math.Seq.{get_or-append_seam}
use Rattle.std.proofs.lemmas.List.{get_or_default, length-append, take_all, take_more}
use Rattle.std.proofs.lemmas.List.Elements.{Contains-append_cases, Contains-append_left, Contains-append_right}
use Rattle.cil_base.specs.Lists.{contains_cases, contains_here, contains_none}
use Rattle.cil_index.specs.Sets.{AreNumbered, IsSmallNumber, all_sets, set_of, small_sets}

-- ---- which sets are there

empty_small : (n : ℕ) → Contains (small_sets n) []
unfolding small_sets
empty_small zero = contains_here [] []
empty_small (suc n) = Contains-append_left (small_sets n) ((n ∷ []) ∷ []) [] (empty_small n)

one_small : (n t : ℕ) → t < n → Contains (small_sets n) (t ∷ [])
unfolding small_sets
one_small zero t l = absurd (omega (arith, l))
one_small (suc n) t l = elim (cases_lt t n) [
  | inl less ↦ Contains-append_left (small_sets n) ((n ∷ []) ∷ []) (t ∷ []) (one_small n t less)
  | inr ge ↦ let same : n ≡ t = omega (arith, l, ge) in
      Contains-append_right (small_sets n) ((n ∷ []) ∷ []) (t ∷ []) (subst (λ k. Contains ((n ∷ []) ∷ []) (k ∷ [])) same (contains_here (n ∷ []) []))
]

small_grows : (n m : ℕ) → n ≤ m → (set : List ℕ) → Contains (small_sets n) set → Contains (small_sets m) set
unfolding small_sets
small_grows n zero l set c = let same : n ≡ 0 = omega (arith, l) in subst (λ k. Contains (small_sets k) set) same c
small_grows n (suc m) l set c = elim (cases_lt n (suc m)) [
  | inl less ↦ Contains-append_left (small_sets m) ((m ∷ []) ∷ []) set (small_grows n m (omega (arith, less)) set c)
  | inr ge ↦ let same : n ≡ suc m = omega (arith, l, ge) in subst (λ k. Contains (small_sets k) set) same c
]

module _ (more : List (List ℕ)) where
  pub empty_in : (ones : ℕ) → Contains (all_sets ones more) []
  unfolding all_sets
  empty_in ones = Contains-append_left (small_sets ones) more [] (empty_small ones)

  pub one_in : (ones t : ℕ) → t < ones → Contains (all_sets ones more) (t ∷ [])
  unfolding all_sets
  one_in ones t l = Contains-append_left (small_sets ones) more (t ∷ []) (one_small ones t l)

  pub grows : (n m : ℕ) → n ≤ m → (set : List ℕ) → Contains (all_sets n more) set → Contains (all_sets m more) set
  unfolding all_sets
  grows n m l set c = elim (Contains-append_cases (small_sets n) more set c) [
    | inl d ↦ Contains-append_left (small_sets m) more set (small_grows n m l set d)
    | inr d ↦ Contains-append_right (small_sets m) more set d
  ]

pub moved : (ones : ℕ) (old new : List (List ℕ)) → ((set : List ℕ) → Contains old set → Contains new set) → (set : List ℕ) → Contains (all_sets ones old) set
    → Contains (all_sets ones new) set
unfolding all_sets
moved ones old new there set c = elim (Contains-append_cases (small_sets ones) old set c) [
  | inl d ↦ Contains-append_left (small_sets ones) new set d
  | inr d ↦ Contains-append_right (small_sets ones) new set (there set d)
]

pub there_behind : (ones : ℕ) (more : List (List ℕ)) (set : List ℕ) → Contains more set → Contains (all_sets ones more) set
unfolding all_sets
there_behind ones more set c = Contains-append_right (small_sets ones) more set c

-- one set more of several types
pub pushed : (old new : List (List ℕ)) (set : List ℕ) → new ≡ old ++ set ∷ [] → (other : List ℕ) → Contains old other → Contains new other
pushed old new set push other c = subst (λ z. Contains z other) (sym push) (Contains-append_left old (set ∷ []) other c)

pub pushed_there : (old new : List (List ℕ)) (set : List ℕ) → new ≡ old ++ set ∷ [] → Contains new set
pushed_there old new set push = subst (λ z. Contains z set) (sym push) (Contains-append_right old (set ∷ []) set (contains_here set []))

-- ---- short lists

pub none_long : (xs : List ℕ) → length xs ≡ 0 → xs ≡ []
none_long [] e = λ i. []
none_long (x ∷ xs) e = absurd (omega (arith, e))

pub one_long : (xs : List ℕ) (d : ℕ) → length xs ≡ 1 → xs ≡ get_or xs 0 d ∷ []
one_long [] d e = absurd (omega (arith, e))
one_long (x ∷ []) d e = λ i. x ∷ []
one_long (x ∷ y ∷ xs) d e = absurd (omega (arith, e))

-- a set with fewer than two members, by its least one
pub single : (xs : List ℕ) (v : ℕ) → length xs < 2 → Contains xs v → xs ≡ v ∷ []
single [] v few c = absurd (contains_none v c)
single (x ∷ []) v few c = elim (contains_cases v x [] c) [ inl e ↦ ap (λ k. k ∷ []) e | inr none ↦ absurd (contains_none v none) ]
single (x ∷ y ∷ xs) v few c = absurd (omega (arith, few))

pub nothing : (xs : List ℕ) → ((v : ℕ) → Contains xs v → 0 ≤ v → ⊥) → xs ≡ []
nothing [] none = λ i. []
nothing (x ∷ xs) none = absurd (none x (contains_here x xs) (omega arith))

pub small_none : (xs : List ℕ) → ((v : ℕ) → Contains xs v → 0 ≤ v → ⊥) → IsSmallNumber xs 0
small_none xs none = subst (λ ys. IsSmallNumber ys 0) (sym (nothing xs none)) refl

pub small_one : (xs : List ℕ) (v n : ℕ) → length xs < 2 → Contains xs v → n ≡ suc v → IsSmallNumber xs n
small_one xs v n few c next = subst (λ ys. IsSmallNumber ys n) (sym (single xs v few c)) (refl, next)

-- ---- sets, one after another

pub sets_none : (sets named : List (List ℕ)) (set : List ℕ) → Contains (take 0 named) set → Contains sets set
sets_none sets named set c = absurd (contains_none set c)

pub sets_more : (named : List (List ℕ)) (i : ℕ) (v : List ℕ) (old new : List (List ℕ)) → i < length named → v ≡ get_or named i v
    → ((set : List ℕ) → Contains (take i named) set → Contains old set) → ((set : List ℕ) → Contains old set → Contains new set) → Contains new v
    → (set : List ℕ) → Contains (take (i + 1) named) set → Contains new set
sets_more named i v old new less is so_far stays here set c =
    let more : take (i + 1) named ≡ take i named ++ v ∷ [] = take_more named i v less ∙ ap (λ (x : List ℕ). take i named ++ x ∷ []) (sym is) in
    elim (Contains-append_cases (take i named) (v ∷ []) set (subst (λ (z : List (List ℕ)). Contains z set) more c)) [
      | inl d ↦ stays set (so_far set d)
      | inr d ↦ elim (contains_cases set v [] d) [ inl e ↦ subst (Contains new) e here | inr none ↦ absurd (contains_none set none) ]
    ]

pub sets_all : (named : List (List ℕ)) (i : ℕ) (sets : List (List ℕ)) → length named ≤ i → ((set : List ℕ) → Contains (take i named) set → Contains sets set)
    → (set : List ℕ) → Contains named set → Contains sets set
sets_all named i sets over all set c = all set (subst (λ (z : List (List ℕ)). Contains z set) (sym (take_all i named over)) c)

pub set_there : (named : List (List ℕ)) (i : ℕ) (v : List ℕ) → i < length named → v ≡ get_or named i v → Contains named v
set_there named i v less is = (i, less, sym is)

-- ---- the numbers of sets

-- those of the first ones
abbrev pub AreFirst : (distinct named : List (List ℕ)) → ℕ → List ℕ → Type 0
AreFirst distinct named i numbers = (length numbers ≡ i) × ((d : ℕ) → d < i → slice_get distinct (get_or numbers d 0) ≡ Some (set_of named d))

module _ (distinct named : List (List ℕ)) where
  pub no_numbers : (numbers : List ℕ) → numbers ≡ [] → AreFirst distinct named 0 numbers
  no_numbers numbers none = (ap (λ (z : List ℕ). length z) none, λ d l. absurd (omega (arith, l)))

  pub numbers_more : (i n : ℕ) (v : List ℕ) (old new : List ℕ) → i < length named → v ≡ get_or named i v → slice_get distinct n ≡ Some v → new ≡ old ++ n ∷ []
      → AreFirst distinct named i old → AreFirst distinct named (i + 1) new
  numbers_more i n v old new less is at push so_far = (
    ap (λ (z : List ℕ). length z) push ∙ length-append old (n ∷ []) ∙ ap (λ k. k + 1) so_far.0,
    λ d l. elim (cases_lt d i) [
      | inl below ↦ let len = so_far.0 in
          subst (λ k. slice_get distinct k ≡ Some (set_of named d)) (sym (ap (λ (z : List ℕ). get_or z d 0) push ∙ get_or-append old (n ∷ []) 0 d (omega (arith, below, len)))) (so_far.1 d below)
      | inr over ↦ let same : d ≡ i = omega (arith, l, over) in
          subst (λ k. slice_get distinct (get_or new k 0) ≡ Some (set_of named k)) (sym same)
          (subst (λ k. slice_get distinct k ≡ Some (set_of named i))
          (sym (ap (λ (z : List ℕ). get_or z i 0) push ∙ ap (λ k. get_or (old ++ n ∷ []) k 0) (sym so_far.0) ∙ get_or-append_seam old n [] 0))
          (at ∙ ap Some (is ∙ get_or_default named i v [] less)))
    ],
  )

  pub all_numbers : (i : ℕ) (numbers : List ℕ) → length named ≤ i → slice_get distinct 0 ≡ Some [] → AreFirst distinct named i numbers → AreNumbered distinct named numbers
  all_numbers i numbers over empty first d = elim (cases_lt d i) [
    | inl below ↦ first.1 d below
    | inr beyond ↦ let len = first.0 in
        subst (λ k. slice_get distinct k ≡ Some (set_of named d)) (sym (get_or-eq_default numbers 0 (omega (arith, beyond, len))))
        (empty ∙ ap Some (sym (get_or-eq_default named [] (omega (arith, beyond, over)))))
  ]

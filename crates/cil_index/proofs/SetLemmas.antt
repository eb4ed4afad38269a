-- The sets of numbers: what each has, and by what it is found.
use Rattle.std.specs.Prelude.{Contains, ◌↔◌, IsTrue}
use Rattle.std.proofs.Common.{◌≡◌, ℕ, zero, suc, Bool, true, false, ◌-◌, ◌<◌, ◌≤◌, List, [], ◌∷◌, ◌++◌, length, get_or, ◌+◌, refl, sym, ◌∙◌, ap, subst, inl, inr, arith}
use Rattle.std.proofs.lemmas.Bool.{cases_lt}
use Rattle.std.proofs.Math.ListN.{get_or-append, get_or-eq_default}
use Rattle.std.proofs.Math.Dec.{eqb, ltb}
use Rattle.std.proofs.lemmas.Bool.Decides.{eqb_tells, nat_tests}
use Rattle.std.proofs.Math.Seq.{get_or-append_seam, get_or-append_right}
use Rattle.std.proofs.lemmas.List.{get_or_default, length-append}
use Rattle.cil_base.specs.Lists.{contains_here, contains_cases, contains_none}
use Rattle.cil_index.specs.Sets.{all_sets, small_sets, set_of, AreSeveral}
use Rattle.cil_index.specs.Entries.{alone_key, key_of_set}

pub length-small : (n : ℕ) → length (small_sets n) ≡ suc n
unfolding small_sets
length-small zero = refl
length-small (suc n) = let e = length-small n in let f = length-append (small_sets n) ((n ∷ []) ∷ []) in omega (arith, e, f)

small_at : (ones n : ℕ) → n < ones → get_or (small_sets ones) (suc n) [] ≡ n ∷ []
unfolding small_sets
small_at zero n l = absurd (omega (arith, l))
small_at (suc m) n l =
    let size = length-small m in
    elim (cases_lt n m) [
      | inl less ↦ get_or-append (small_sets m) ((m ∷ []) ∷ []) [] (suc n) (omega (arith, less, size)) ∙ small_at m n less
      | inr ge ↦ let same : n ≡ m = omega (arith, l, ge) in
          let at : suc n ≡ length (small_sets m) = omega (arith, size, same) in
          ap (λ k. get_or (small_sets m ++ (m ∷ []) ∷ []) k []) at ∙ get_or-append_seam (small_sets m) (m ∷ []) [] [] ∙ ap (λ k. k ∷ []) (sym same)
    ]

empty_at : (ones : ℕ) → get_or (small_sets ones) 0 [] ≡ []
unfolding small_sets
empty_at zero = refl
empty_at (suc m) = let size = length-small m in get_or-append (small_sets m) ((m ∷ []) ∷ []) [] 0 (omega (arith, size)) ∙ empty_at m

pub small_there : (ones n : ℕ) (more : List (List ℕ)) → n < ones → set_of (all_sets ones more) (suc n) ≡ n ∷ []
unfolding all_sets
small_there ones n more l =
    let size = length-small ones in get_or-append (small_sets ones) more [] (suc n) (omega (arith, l, size)) ∙ small_at ones n l

pub empty_there : (ones : ℕ) (more : List (List ℕ)) → set_of (all_sets ones more) 0 ≡ []
unfolding all_sets
empty_there ones more = let size = length-small ones in get_or-append (small_sets ones) more [] 0 (omega (arith, size)) ∙ empty_at ones

pub several_there : (ones n : ℕ) (more : List (List ℕ)) → ones < n → set_of (all_sets ones more) n ≡ get_or more (n - ones - 1) []
unfolding all_sets
several_there ones n more l =
    let size = length-small ones in
    let at : n - length (small_sets ones) ≡ n - ones - 1 = omega (arith, size, l) in
    get_or-append_right (small_sets ones) more n [] (omega (arith, l, size)) ∙ ap (λ k. get_or more k []) at

-- a number that is not told to be one is behind all sets
pub none_is : (sets : List (List ℕ)) (n : ℕ) (answer : Bool) → (n < length sets → IsTrue answer) → answer ≡ false → length sets ≤ n
none_is sets n answer tells none = elim (cases_lt n (length sets)) [ inl less ↦ let yes_ = tells less in absurd cc | inr ge ↦ ge ]

pub in_one : (n t : ℕ) → Contains (n ∷ []) t ↔ (n ≡ t)
in_one n t = (
  λ c. elim (contains_cases t n [] c) [ inl e ↦ e | inr d ↦ absurd (contains_none t d) ],
  λ e. subst (Contains (n ∷ [])) e (contains_here n []),
)

pub none_in : (t : ℕ) (set : List ℕ) → set ≡ [] → IsTrue false ↔ Contains set t
none_in t set e = rw e (λ h. let f : false ≡ true = h in absurd cc, λ c. absurd (contains_none t c))

module _ (ones : ℕ) (more sets : List (List ℕ)) (view : all_sets ones more ≡ sets) where
  pub empty_is : (n : ℕ) → n ≡ 0 → set_of sets n ≡ []
  empty_is n e = ap (set_of sets) e ∙ ap (λ s. set_of s 0) (sym view) ∙ empty_there ones more

  pub one_is : (n : ℕ) → (n ≡ 0 → ⊥) → n ≤ ones → set_of sets n ≡ (n - 1) ∷ []
  one_is n some within =
      let before : n - 1 < ones = omega (arith, some, within) in
      let at : n ≡ suc (n - 1) = omega (arith, some) in
      ap (set_of sets) at ∙ ap (λ s. set_of s (suc (n - 1))) (sym view) ∙ small_there ones (n - 1) more before

  other_is : (n : ℕ) → ones < n → set_of sets n ≡ get_or more (n - ones - 1) []
  other_is n over = ap (λ s. set_of s n) (sym view) ∙ several_there ones n more over

  -- one of several types stands behind those of one
  pub several_is : (n : ℕ) (set : List ℕ) → ones < n → n - ones - 1 < length more → set ≡ get_or more (n - ones - 1) set → set ≡ set_of sets n
  several_is n set over within is = is ∙ get_or_default more (n - ones - 1) set [] within ∙ sym (other_is n over)

  pub past_is : (n : ℕ) → ones < n → length more ≤ n - ones - 1 → [] ≡ set_of sets n
  past_is n over past = sym (other_is n over ∙ get_or-eq_default more [] past)

  -- the empty set has nothing
  pub empty_has : (n t : ℕ) → n ≡ 0 → IsTrue false ↔ Contains (set_of sets n) t
  empty_has n t e = none_in t (set_of sets n) (empty_is n e)

  -- a set of one type has just this
  pub one_has : (n t : ℕ) → (n ≡ 0 → ⊥) → n ≤ ones → IsTrue (eqb (n - 1) t) ↔ Contains (set_of sets n) t
  one_has n t some within = rw (one_is n some within) (elim (eqb_tells (n - 1) t) [
    | inl yes_ ↦ (λ h. (in_one (n - 1) t).1 yes_.1, λ c. yes_.0)
    | inr no_ ↦ (λ h. let e = no_.0 in absurd cc, λ c. absurd (no_.1 ((in_one (n - 1) t).0 c)))
  ])

  pub other_has : (n t : ℕ) (set : List ℕ) (answer : Bool) → ones < n → n - ones - 1 < length more → set ≡ get_or more (n - ones - 1) set → IsTrue answer ↔ Contains set t
      → IsTrue answer ↔ Contains (set_of sets n) t
  other_has n t set answer over within is tells =
      let at : set_of sets n ≡ set = other_is n over ∙ get_or_default more (n - ones - 1) [] set within ∙ sym is in
      rw at tells

  pub none_has : (n t : ℕ) → ones < n → length more ≤ n - ones - 1 → IsTrue false ↔ Contains (set_of sets n) t
  none_has n t over past = none_in t (set_of sets n) (other_is n over ∙ get_or-eq_default more [] past)

  -- a set of several types is not that of one
  pub several_not_one : (n t : ℕ) → ones < n → AreSeveral more → set_of sets n ≡ t ∷ [] → ⊥
  several_not_one n t over many one = elim (cases_lt (n - ones - 1) (length more)) [
    | inl within ↦ let set = get_or more (n - ones - 1) [] in
        let long = many set (n - ones - 1, within, get_or_default more (n - ones - 1) set [] within) in
        let short : length set ≡ 1 = ap (λ (z : List ℕ). length z) (sym (other_is n over) ∙ one) in
        absurd (omega (arith, long, short))
    | inr past ↦ let none : t ∷ [] ≡ [] = sym one ∙ other_is n over ∙ get_or-eq_default more [] past in absurd cc
  ]

  pub count_all : length more + ones + 1 ≡ length sets
  unfolding all_sets
  count_all =
      let size = length-small ones in
      let both = length-append (small_sets ones) more in
      let same = ap (λ (z : List (List ℕ)). length z) view in omega (arith, size, both, same)

  module _ (other : ℕ) where
    pub key_empty : (n : ℕ) → n ≡ 0 → other ≡ key_of_set other (set_of sets n)
    key_empty n e = ap (key_of_set other) (sym (empty_is n e))

    pub key_one : (n : ℕ) → (n ≡ 0 → ⊥) → n ≤ ones → alone_key (n - 1) ≡ key_of_set other (set_of sets n)
    key_one n some within = ap (key_of_set other) (sym (one_is n some within))

    of_many : (set : List ℕ) → 2 ≤ length set → other ≡ key_of_set other set
    of_many [] l = absurd (omega (arith, l))
    of_many (t ∷ []) l = absurd (omega (arith, l))
    of_many (t ∷ u ∷ rest) l = refl

    pub key_several : (n : ℕ) → ones < n → AreSeveral more → other ≡ key_of_set other (set_of sets n)
    key_several n over many = elim (cases_lt (n - ones - 1) (length more)) [
      | inl within ↦ let set = get_or more (n - ones - 1) [] in
          rw (other_is n over) (of_many set (many set (n - ones - 1, within, get_or_default more (n - ones - 1) set [] within)))
      | inr past ↦ let at : set_of sets n ≡ [] = other_is n over ∙ get_or-eq_default more [] past in ap (key_of_set other) (sym at)
    ]

pub above : (a b : ℕ) → IsTrue (ltb a b) → a < b
above a b e = grind (arith, nat_tests)

-- a set that has a type is there
pub set_within : (sets : List (List ℕ)) (n t : ℕ) → Contains (set_of sets n) t → n < length sets
set_within sets n t has = elim (cases_lt n (length sets)) [ inl less ↦ less | inr past ↦ absurd (contains_none t (subst (λ l. Contains l t) (get_or-eq_default sets [] past) has)) ]

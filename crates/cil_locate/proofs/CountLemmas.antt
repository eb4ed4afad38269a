-- The files that are told of, counted in the order in which they are told.
use Rattle.std.proofs.Common.{◌≡◌, ◌⊎◌, ◌+◌, ◌<◌, ◌≤◌, ℕ, zero, suc, false, List, [], ◌∷◌, ◌++◌, length, length-append, map, take, get_or, Some, Contains, refl, sym, ◌∙◌, ap, subst, inl, inr, arith}
use Rattle.std.specs.Prelude.{slice_get}
use Rattle.std.specs.declared.cmp.Ordering.{Ordering}
use Rattle.std.specs.declared.cmp.Ordering.TheVariants.{Less, Equal, Greater}
use Rattle.std.specs.List.Sorted.{IsStrictlySortedBy}
use Rattle.std.specs.Ordering.{is_gt, nat_cmp, ordering_then}
use Rattle.std.proofs.lemmas.List.{map-append, take_all, take_more}
use Rattle.std.proofs.lemmas.List.Elements.{Contains-append_left, Contains-append_right, Contains-append_cases}
use Rattle.std.proofs.lemmas.Map.Keys.{le_from_not_gt}
use Rattle.std.proofs.lemmas.Option.{slice_get-get_or}
use Rattle.cil_base.specs.Lists.{contains_cases, contains_here, contains_none}
use Rattle.cil_base.specs.MadeLists.{from_map}
use Rattle.cil_base.specs.Paths.{less_from}
use Rattle.cil_base.specs.Places.{get_at, none_some}
use Rattle.cil_base.specs.Rising.{rises_between, rising_in_front, rising_join, rising_nothing}
use Rattle.cil_locate.specs.Counts.{AreTold, IsToldOf}
use Rattle.cil_locate.specs.Order.{told_cmp}
use Rattle.cil_locate.specs.declared.told.Told.{Told}

taken : {X : Type 0} (xs : List X) (i k : ℕ) (x : X) → slice_get (take i xs) k ≡ Some x → (k < i) × (slice_get xs k ≡ Some x)
taken [] zero k x e = absurd (none_some x e)
taken [] (suc i) k x e = absurd (none_some x e)
taken (y ∷ ys) zero k x e = absurd (none_some x e)
taken (y ∷ ys) (suc i) zero x e = (omega arith, e)
taken (y ∷ ys) (suc i) (suc k) x e = let t = taken ys i k x e in let h = t.0 in (omega (arith, h), t.1)

first_not_greater : (a b c : Ordering) → ordering_then (ordering_then a b) c ≡ Less → is_gt a ≡ false
first_not_greater Less b c e = refl
first_not_greater Equal b c e = refl
first_not_greater Greater b c e = absurd (let h : Greater ≡ Less = e in cc)

in_more : (ts : List Told) (t : Told) (o : ℕ) → Contains (map (λ u. u.origin) (ts ++ t ∷ [])) o → Contains (map (λ u. u.origin) ts) o ⊎ (t.origin ≡ o)
in_more ts t o c =
    elim (Contains-append_cases (map (λ u. u.origin) ts) (t.origin ∷ []) o (subst (λ os. Contains os o) (map-append (λ u. u.origin) ts (t ∷ [])) c)) [
      | inl d ↦ inl d
      | inr d ↦ elim (contains_cases o t.origin [] d) [ inl e ↦ inr e | inr n ↦ absurd (contains_none o n) ]
    ]

into_more : (ts : List Told) (t : Told) (o : ℕ) → Contains (map (λ u. u.origin) ts) o → Contains (map (λ u. u.origin) (ts ++ t ∷ [])) o
into_more ts t o c =
    subst (λ os. Contains os o) (sym (map-append (λ u. u.origin) ts (t ∷ []))) (Contains-append_left (map (λ u. u.origin) ts) (t.origin ∷ []) o c)

last_in : (ts : List Told) (t : Told) → Contains (map (λ u. u.origin) (ts ++ t ∷ [])) t.origin
last_in ts t =
    subst (λ os. Contains os t.origin) (sym (map-append (λ u. u.origin) ts (t ∷ [])))
    (Contains-append_right (map (λ u. u.origin) ts) (t.origin ∷ []) t.origin (contains_here t.origin []))

-- what is told of is counted; the last number is that of the file told of last, and none is above it
pub record IsCounted (order : List Told) (last count : ℕ) : Type 0 where
  pub told : AreTold order count
  pub below : (o : ℕ) → Contains (map (λ t. t.origin) order) o → o ≤ last
  pub is_last : (last ≡ 0) ⊎ Contains (map (λ t. t.origin) order) last

pub none_counted : IsCounted [] 0 0
none_counted = record {
  told = record {
    origins = [];
    lists = record {
      rising = rising_nothing nat_cmp;
      members = λ o. (λ c. absurd (contains_none o c), λ t. absurd (contains_none o t.1));
    };
    counts = refl;
  };
  below = λ o c. absurd (contains_none o c);
  is_last = inl refl;
}

module _ (ts : List Told) (t : Told) (last count : ℕ) (is : IsCounted ts last count) where
  -- of the same file as the one before, or of the policy
  pub same_counted : t.origin ≡ last → IsCounted (ts ++ t ∷ []) last count
  same_counted same = record {
    told = record {
      origins = is.told.origins;
      lists = record {
        rising = is.told.lists.rising;
        members = λ o. (
          λ c. let m = (is.told.lists.members o).0 c in (m.0, into_more ts t o m.1),
          λ m. (is.told.lists.members o).1 (m.0, known o m.0 (in_more ts t o m.1)),
        );
      };
      counts = is.told.counts;
    };
    below = λ o c. elim (in_more ts t o c) [ inl d ↦ is.below o d | inr e ↦ omega (arith, same, e) ];
    is_last = elim is.is_last [ inl none ↦ inl none | inr c ↦ inr (into_more ts t last c) ];
  }
    where
      known : (o : ℕ) → 1 ≤ o → Contains (map (λ u. u.origin) ts) o ⊎ (t.origin ≡ o) → Contains (map (λ u. u.origin) ts) o
      known o some (inl c) = c
      known o some (inr e) =
          elim is.is_last [
            | inl none ↦ absurd (omega (arith, some, none, same, e))
            | inr c ↦ subst (Contains (map (λ u. u.origin) ts)) (sym same ∙ e) c
          ]

  -- of the next file
  pub next_counted : last < t.origin → IsCounted (ts ++ t ∷ []) t.origin (count + 1)
  next_counted above = record {
    told = record {
      origins = is.told.origins ++ t.origin ∷ [];
      lists = record {
        rising = rising_join nat_cmp is.told.origins (t.origin ∷ []) is.told.lists.rising
            (rising_in_front nat_cmp t.origin [] (λ y c. absurd (contains_none y c)) (rising_nothing nat_cmp))
            (λ x y c d. elim (contains_cases y t.origin [] d) [
              | inl e ↦ less_from x y (let h = is.below x ((is.told.lists.members x).0 c).1 in omega (arith, h, above, e))
              | inr n ↦ absurd (contains_none y n)
            ]);
        members = λ o. (
          λ c. elim (Contains-append_cases is.told.origins (t.origin ∷ []) o c) [
            | inl d ↦ (let m = (is.told.lists.members o).0 d in (m.0, into_more ts t o m.1))
            | inr d ↦ elim (contains_cases o t.origin [] d) [
              | inl e ↦ (omega (arith, above, e), subst (Contains (map (λ u. u.origin) (ts ++ t ∷ []))) e (last_in ts t))
              | inr n ↦ absurd (contains_none o n)
            ]
          ],
          λ m. elim (in_more ts t o m.1) [
            | inl d ↦ Contains-append_left is.told.origins (t.origin ∷ []) o ((is.told.lists.members o).1 (m.0, d))
            | inr e ↦ Contains-append_right is.told.origins (t.origin ∷ []) o (subst (Contains (t.origin ∷ [])) e (contains_here t.origin []))
          ],
        );
      };
      counts = let l = length-append is.told.origins (t.origin ∷ []) in let c = is.told.counts in omega (arith, l, c);
    };
    below = λ o c. elim (in_more ts t o c) [ inl d ↦ (let h = is.below o d in omega (arith, h, above)) | inr e ↦ omega (arith, e) ];
    is_last = inr (last_in ts t);
  }

module _ (order : List Told) (rising : IsStrictlySortedBy told_cmp order) (i : ℕ) (d : Told) (within : i < length order) where
  -- the files that were told of before are not behind this one
  not_behind : (o : ℕ) → Contains (map (λ u. u.origin) (take i order)) o → o ≤ (get_or order i d).origin
  not_behind o c =
      let from = from_map (λ u. u.origin) (take i order) o c in
      let place = get_at (take i order) from.0 from.1 in
      let there = taken order i place.0 from.0 place.2 in
      let less = rises_between told_cmp order place.0 i from.0 (get_or order i d) rising there.1 (slice_get-get_or order i d within) there.0 in
      let below = le_from_not_gt from.0.origin (get_or order i d).origin (first_not_greater _ _ _ less) in
      let same = from.2 in
      omega (arith, below, same)

  last_not_behind : (last : ℕ) → (last ≡ 0) ⊎ Contains (map (λ u. u.origin) (take i order)) last → last ≤ (get_or order i d).origin
  last_not_behind last (inl none) = omega (arith, none)
  last_not_behind last (inr c) = not_behind last c

  counted_so : (last count last2 count2 : ℕ) → last2 ≡ last → count2 ≡ count → IsCounted (take i order ++ get_or order i d ∷ []) last count → IsCounted (take (i + 1) order) last2 count2
  counted_so last count last2 count2 e f is =
      subst (λ ts. IsCounted ts last2 count2) (sym (take_more order i d within))
      (subst (λ n. IsCounted (take i order ++ get_or order i d ∷ []) n count2) (sym e) (subst (IsCounted (take i order ++ get_or order i d ∷ []) last) (sym f) is))

  pub one_same : (last count last2 count2 : ℕ) → IsCounted (take i order) last count → (get_or order i d).origin ≡ last → last2 ≡ last → count2 ≡ count
      → IsCounted (take (i + 1) order) last2 count2
  one_same last count last2 count2 is same e f = counted_so last count last2 count2 e f (same_counted (take i order) (get_or order i d) last count is same)

  pub one_next : (last count last2 count2 : ℕ) → IsCounted (take i order) last count → ((get_or order i d).origin ≡ last → ⊥) → last2 ≡ (get_or order i d).origin
      → count2 ≡ count + 1 → IsCounted (take (i + 1) order) last2 count2
  one_next last count last2 count2 is other e f =
      counted_so (get_or order i d).origin (count + 1) last2 count2 e f (next_counted (take i order) (get_or order i d) last count is
      (let h = last_not_behind last is.is_last in omega (arith, h, other)))

pub all_counted : (order : List Told) (i last count : ℕ) → length order ≤ i → IsCounted (take i order) last count → AreTold order count
all_counted order i last count over is = subst (λ ts. AreTold ts count) (take_all i order over) is.told

-- Rising lists of one order: two of them one behind the other, and places of one. What lies within another is no longer, so a
-- list of all members of a set that is short enough shows that there are not too many.
use Rattle.std.proofs.Common.{◌≡◌, ◌⊎◌, ℕ, zero, suc, ◌<◌, ◌≤◌, List, [], ◌∷◌, ◌++◌, length, sym, ◌∙◌, ap, subst, inl, inr, arith}
use Rattle.std.specs.Prelude.{Contains, Some, slice_get}
use Rattle.std.specs.declared.cmp.Ordering.{Ordering}
use Rattle.std.specs.declared.cmp.Ordering.TheVariants.{Less, Equal}
use Rattle.std.specs.Cmp.{IsTotalOrder}
use Rattle.std.specs.List.{AllByRecursion}
use Rattle.std.specs.List.Sorted.{IsStrictlySortedBy}
use Rattle.std.specs.Ordering.{ordering_reverse}
use Rattle.std.proofs.lemmas.List.Elements.{Contains-append_cases}
use Rattle.cil_base.specs.Lists.{Lists, contains_here, contains_later, contains_cases, contains_none, all_at, not_below_itself}
use Rattle.cil_base.specs.Places.{get_at, get_contains, none_some, some_same}

-- more than so many things are of a set: there is a rising list of so many
pub record IsOver {X : Type 0} (order : X → X → Ordering) (P : X → Type 0) (limit : ℕ) : Type 0 where
  pub some : List X
  pub rising : IsStrictlySortedBy order some
  pub each : (x : X) → Contains some x → P x
  pub many : limit < length some

module _ {X : Type 0} where
  pub all_from : (P : X → Type 0) (xs : List X) → ((x : X) → Contains xs x → P x) → AllByRecursion P xs
  all_from P [] h = tt
  all_from P (x ∷ xs) h = (h x (contains_here x xs), all_from P xs (λ y c. h y (contains_later y x xs c)))

  module _ (order : X → X → Ordering) where
    pub rising_nothing : IsStrictlySortedBy order []
    unfolding IsStrictlySortedBy
    rising_nothing = tt

    pub rising_in_front : (x : X) (xs : List X) → ((y : X) → Contains xs y → order x y ≡ Less) → IsStrictlySortedBy order xs → IsStrictlySortedBy order (x ∷ xs)
    unfolding IsStrictlySortedBy
    rising_in_front x xs h r = (all_from (λ y. order x y ≡ Less) xs h, r)

    pub rising_join : (xs ys : List X) → IsStrictlySortedBy order xs → IsStrictlySortedBy order ys
        → ((x y : X) → Contains xs x → Contains ys y → order x y ≡ Less) → IsStrictlySortedBy order (xs ++ ys)
    unfolding IsStrictlySortedBy
    rising_join [] ys p q h = q
    rising_join (x ∷ xs) ys p q h = (
      all_from (λ y. order x y ≡ Less) (xs ++ ys) (λ y c. elim (Contains-append_cases xs ys y c) [
        | inl d ↦ all_at (λ z. order x z ≡ Less) xs y p.0 d
        | inr d ↦ h x y (contains_here x xs) d
      ]),
      rising_join xs ys p.1 q (λ a b c d. h a b (contains_later a x xs c) d),
    )

    -- of two places of a rising list the earlier one is below
    pub rises_between : (xs : List X) (i j : ℕ) (x y : X) → IsStrictlySortedBy order xs → slice_get xs i ≡ Some x → slice_get xs j ≡ Some y → i < j → order x y ≡ Less
    unfolding IsStrictlySortedBy
    rises_between [] i j x y r e f h = absurd (none_some x e)
    rises_between (z ∷ zs) i zero x y r e f h = absurd (omega (arith, h))
    rises_between (z ∷ zs) zero (suc j) x y r e f h =
        let same : z ≡ x = some_same z x e in subst (λ w. order w y ≡ Less) same (all_at (λ w. order z w ≡ Less) zs y r.0 (get_contains zs j y f))
    rises_between (z ∷ zs) (suc i) (suc j) x y r e f h = rises_between zs i j x y r.1 e f (omega (arith, h))

    module _ (total : IsTotalOrder order) where
      three_ways : (i j : ℕ) → (i < j) ⊎ ((i ≡ j) ⊎ (j < i))
      three_ways i j = grind arith

      -- what ties in a rising list is one, at one place
      pub tied_places : (xs : List X) (i j : ℕ) (x y : X) → IsStrictlySortedBy order xs → slice_get xs i ≡ Some x → slice_get xs j ≡ Some y
          → order x y ≡ Equal → i ≡ j
      tied_places xs i j x y r e f tie =
          elim (three_ways i j) [
            | inl h ↦ absurd (let l : Less ≡ Equal = sym (rises_between xs i j x y r e f h) ∙ tie in cc)
            | inr k ↦ elim k [
              | inl same ↦ same
              | inr h ↦ absurd (let l : Less ≡ Equal = sym (rises_between xs j i y x r f e h) ∙ total.antisymm y x ∙ ap ordering_reverse tie in cc)
            ]
          ]

      pub tied_same : (xs : List X) (x y : X) → IsStrictlySortedBy order xs → Contains xs x → Contains xs y → order x y ≡ Equal → x ≡ y
      tied_same xs x y r c d tie =
          let i = get_at xs x c in
          let j = get_at xs y d in
          some_same x y (sym i.2 ∙ ap (slice_get xs) (tied_places xs i.0 j.0 x y r i.2 j.2 tie) ∙ j.2)

module _ {X : Type 0} (order : X → X → Ordering) (total : IsTotalOrder order) where
  pub rising_within : (xs ys : List X) → IsStrictlySortedBy order xs → IsStrictlySortedBy order ys → ((x : X) → Contains xs x → Contains ys x) → length xs ≤ length ys
  unfolding IsStrictlySortedBy
  rising_within [] ys p q h = omega arith
  rising_within (x ∷ xs) [] p q h = absurd (contains_none x (h x (contains_here x xs)))
  rising_within (x ∷ xs) (y ∷ ys) p q h =
      let rest : length xs ≤ length ys = rising_within xs ys p.1 q.1 (λ z c. behind z c (contains_cases z y ys (h z (contains_later z x xs c)))) in
      omega (arith, rest) where
        -- none of the rest is the first of the others: that would come before itself or before x
        behind : (z : X) → Contains xs z → (y ≡ z) ⊎ Contains ys z → Contains ys z
        behind z c (inr d) = d
        behind z c (inl e) =
            let below : order x z ≡ Less = all_at (λ w. order x w ≡ Less) xs z p.0 c in
            elim (contains_cases x y ys (h x (contains_here x xs))) [
              | inl f ↦ absurd (not_below_itself order total z (subst (λ w. order w z ≡ Less) (sym f ∙ e) below))
              | inr d ↦ absurd (not_below_itself order total x (total.trans x z x below (subst (λ w. order w x ≡ Less) e (all_at (λ w. order y w ≡ Less) ys x q.0 d))))
            ]

  -- where the list of the set is short, there are not more
  pub not_over : (P : X → Type 0) (xs : List X) (limit : ℕ) → Lists order P xs → length xs ≤ limit → IsOver order P limit → ⊥
  not_over P xs limit l short o =
      let some = rising_within o.some xs o.rising l.rising (λ x c. (l.members x).1 (o.each x c)) in
      let many = o.many in
      omega (arith, some, many, short)

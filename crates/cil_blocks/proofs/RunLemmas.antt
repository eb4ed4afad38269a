-- The items of one key among sorted ones: they stand between two partition points.
use Rattle.std.specs.Prelude.{Contains, not, ◌↔◌}
use Rattle.std.proofs.Common.{◌≡◌, ℕ, ◌+◌, ◌<◌, ◌≤◌, Bool, true, false, is_lt, List, ◌++◌, length, take, drop, get_or, refl, sym, ◌∙◌, ap, subst, inl, inr, arith}
use Rattle.std.specs.declared.cmp.Ordering.{Ordering}
use Rattle.std.specs.declared.cmp.Ordering.TheVariants.{Less, Equal, Greater}
use Rattle.std.specs.Ordering.{is_gt, is_ne, nat_cmp, ordering_reverse, ordering_then}
use Rattle.std.specs.Cmp.{IsTotalOrder, IsStrictWeakOrder}
use Rattle.std.specs.List.Sorted.{IsPartitionedBy, IsPartitionPoint, IsSortedByKey}
use Rattle.std.proofs.lemmas.Cmp.{nat_cmp_total, nat_list_cmp_total, on_total, then_total}
use Rattle.std.proofs.lemmas.Map.Lookups.{exact_bytes}
use Rattle.std.proofs.lemmas.Bool.{false≢true, not-true, not-false, true≢false}
use Rattle.std.proofs.lemmas.List.{get_or-drop, length-drop, take-append-drop}
use Rattle.std.proofs.lemmas.List.Elements.{Contains-append_left, Contains-append_right, Contains-append_cases}
use Rattle.std.proofs.lemmas.List.Sorted.{ranks_by, sorted_far}
use Rattle.cil_base.specs.Lists.{text_cmp}
use Rattle.cil_blocks.specs.WrittenSpaces.{NumberedName, numbered_cmp}
use Rattle.cil_base.specs.Paths.{both_equal, same_by}
use Rattle.cil_base.specs.Places.{in_drop, in_take}

-- ---- a number, and then a name

pub numbered_total : IsTotalOrder numbered_cmp
numbered_total = then_total (on_total (λ n. n.0) nat_cmp_total) (on_total (λ n. n.1) nat_list_cmp_total)

pub one_name : (a b : NumberedName) → numbered_cmp a b ≡ Equal → a ≡ b
one_name a b e =
    let both = both_equal (nat_cmp a.0 b.0) (text_cmp a.1 b.1) e in
    let number = same_by a.0 b.0 both.0 in
    let name = exact_bytes a.1 b.1 both.1 in
    λ i. (number i, name i)

differing : (o p : Ordering) → true ≡ is_ne o → o ≡ ordering_then o p
differing Less p e = refl
differing Equal p e = absurd (let f : true ≡ false = e in cc)
differing Greater p e = refl

alike : (o p : Ordering) → false ≡ is_ne o → p ≡ ordering_then o p
alike Less p e = absurd (let f : false ≡ true = e in cc)
alike Equal p e = refl
alike Greater p e = absurd (let f : false ≡ true = e in cc)

module _ (a b : NumberedName) (o : Ordering) (order : o ≡ nat_cmp a.0 b.0) where
  -- other numbers decide
  pub number_decides : true ≡ is_ne o → o ≡ numbered_cmp a b
  number_decides e = differing o (text_cmp a.1 b.1) e ∙ ap (λ p. ordering_then p (text_cmp a.1 b.1)) order

  -- of one number the names do
  pub name_decides : (p : Ordering) → false ≡ is_ne o → p ≡ text_cmp a.1 b.1 → p ≡ numbered_cmp a b
  name_decides p e is = is ∙ alike o (text_cmp a.1 b.1) e ∙ ap (λ q. ordering_then q (text_cmp a.1 b.1)) order

-- ---- keys

module _ {X K : Type 0} (key : X → K) (order : K → K → Ordering) (total : IsTotalOrder order) (exact : (a b : K) → order a b ≡ Equal → a ≡ b) where
  pub weak : IsStrictWeakOrder (λ (x y : X). is_lt (order (key x) (key y)))
  weak = ranks_by total key

  never_below : (k : K) → is_lt (order k k) ≡ true → ⊥
  never_below k e = by (order k k) (total.antisymm k k) e where
    by : (o : Ordering) → o ≡ ordering_reverse o → is_lt o ≡ true → ⊥
    by Less f e = let g : Less ≡ Greater = f in cc
    by Equal f e = false≢true e
    by Greater f e = false≢true e

  turned : (a b : K) → is_gt (order a b) ≡ is_lt (order b a)
  turned a b = by (order a b) (order b a) (total.antisymm a b) where
    by : (o p : Ordering) → o ≡ ordering_reverse p → is_gt o ≡ is_lt p
    by o Less f = ap is_gt f
    by o Equal f = ap is_gt f
    by o Greater f = ap is_gt f

  neither : (a b : K) → is_lt (order a b) ≡ false → is_gt (order a b) ≡ false → a ≡ b
  neither a b = by (order a b) refl where
    by : (o : Ordering) → order a b ≡ o → is_lt o ≡ false → is_gt o ≡ false → a ≡ b
    by Less e p q = absurd (true≢false p)
    by Equal e p q = exact a b e
    by Greater e p q = absurd (true≢false q)

  -- the item stands before the key; it does not stand behind it
  abbrev pub is_before : K → X → Bool
  is_before k x = is_lt (order (key x) k)

  abbrev pub is_upto : K → X → Bool
  is_upto k x = not (is_gt (order (key x) k))

  module _ (k : K) (xs : List X) (sorted : IsSortedByKey key order xs) where
    far : (i j : ℕ) (d : X) → i ≤ j → j < length xs → is_lt (order (key (get_or xs j d)) (key (get_or xs i d))) ≡ false
    far = sorted_far (λ x y. is_lt (order (key x) (key y))) weak xs sorted

    -- what is not above another is before a key where that is
    below_with : (a b : K) → is_lt (order b a) ≡ false → is_lt (order b k) ≡ true → is_lt (order a k) ≡ true
    below_with a b h e = by (order a b) refl where
      by : (o : Ordering) → order a b ≡ o → is_lt (order a k) ≡ true
      by Less f = ap is_lt (total.trans a b k f (less_of (order b k) e)) where
        less_of : (o : Ordering) → is_lt o ≡ true → o ≡ Less
        less_of Less e = refl
        less_of Equal e = absurd (false≢true e)
        less_of Greater e = absurd (false≢true e)
      by Equal f = subst (λ x. is_lt (order x k) ≡ true) (sym (exact a b f)) e
      by Greater f = absurd (true≢false (sym (ap is_lt (total.antisymm b a ∙ ap ordering_reverse f)) ∙ h))

    pub before_parted : IsPartitionedBy (is_before k) xs
    before_parted i j d a b h = below_with (key (get_or xs i d)) (key (get_or xs j d)) (far i j d a b) h

    upto_with : (a b : K) → is_lt (order b a) ≡ false → not (is_gt (order b k)) ≡ true → not (is_gt (order a k)) ≡ true
    upto_with a b h e = by (is_gt (order a k)) refl where
      by : (g : Bool) → is_gt (order a k) ≡ g → not (is_gt (order a k)) ≡ true
      by false f = ap not f
      by true f =
          let above : is_lt (order k a) ≡ true = sym (turned a k) ∙ f in
          let none : is_lt (order k b) ≡ false = sym (turned b k) ∙ not-true (is_gt (order b k)) e in
          absurd (true≢false (sym (chain b above none) ∙ h)) where
            chain : (b : K) → is_lt (order k a) ≡ true → is_lt (order k b) ≡ false → is_lt (order b a) ≡ true
            chain b above none = by_b (order b k) refl where
              less_of : (o : Ordering) → is_lt o ≡ true → o ≡ Less
              less_of Less e = refl
              less_of Equal e = absurd (false≢true e)
              less_of Greater e = absurd (false≢true e)

              by_b : (o : Ordering) → order b k ≡ o → is_lt (order b a) ≡ true
              by_b Less f = ap is_lt (total.trans b k a f (less_of (order k a) above))
              by_b Equal f = subst (λ x. is_lt (order x a) ≡ true) (sym (exact b k f)) above
              by_b Greater f = absurd (true≢false (sym (ap is_lt (total.antisymm k b ∙ ap ordering_reverse f)) ∙ none))

    pub upto_parted : IsPartitionedBy (is_upto k) xs
    upto_parted i j d a b h = upto_with (key (get_or xs i d)) (key (get_or xs j d)) (far i j d a b) h

  -- what is left of sorted items is sorted
  pub sorted_left : (n : ℕ) (xs : List X) → IsSortedByKey key order xs → IsSortedByKey key order (drop n xs)
  sorted_left n xs sorted k d low within =
      let len = length-drop n xs in
      ap is_lt (λ i. order (key (shifted (k + 1) i)) (key (shifted k i)))
      ∙ subst (λ m. is_lt (order (key (get_or xs m d)) (key (get_or xs (n + k) d))) ≡ false) (let e : (n + k) + 1 ≡ n + (k + 1) = omega arith in e)
      (sorted (n + k) d (omega arith) (omega (arith, within, len)))
    where
      shifted : (j : ℕ) → get_or (drop n xs) j d ≡ get_or xs (n + j) d
      shifted j = get_or-drop n xs j d

  module _ (k : K) (xs rest : List X) (first count : ℕ) (is_rest : rest ≡ drop first xs)
      (low : IsPartitionPoint (λ x. is_before k x ≡ true) (λ x. is_before k x ≡ false) xs first)
      (high : IsPartitionPoint (λ x. is_upto k x ≡ true) (λ x. is_upto k x ≡ false) rest count) where
    whole : xs ≡ take first xs ++ rest
    whole = sym (take-append-drop first xs) ∙ ap (λ ys. take first xs ++ ys) (sym is_rest)

    rest_whole : rest ≡ take count rest ++ drop count rest
    rest_whole = sym (take-append-drop count rest)

    -- the items between the two points are those of the key
    pub of_key : (x : X) → Contains (take count rest) x ↔ (Contains xs x × (key x ≡ k))
    of_key x = (
      (λ c. let inside : Contains rest x = subst (λ ys. Contains ys x) (sym rest_whole) (Contains-append_left (take count rest) (drop count rest) x c) in (
        subst (λ ys. Contains ys x) (sym whole) (Contains-append_right (take first xs) rest x inside),
        neither (key x) k (in_drop (λ y. is_before k y ≡ false) first xs (λ j d a b. low.1 j d a b) x (subst (λ ys. Contains ys x) is_rest inside))
            (not-true (is_gt (order (key x) k)) (in_take (λ y. is_upto k y ≡ true) count rest (λ j d a b. high.0 j d (omega arith) a) x c)),
      )),
      (λ h. elim (Contains-append_cases (take first xs) rest x (subst (λ ys. Contains ys x) whole h.0)) [
        | inl c ↦ absurd (never_below k (subst (λ y. is_lt (order y k) ≡ true) h.1 (in_take (λ y. is_before k y ≡ true) first xs (λ j d a b. low.0 j d (omega arith) a) x c)))
        | inr c ↦ elim (Contains-append_cases (take count rest) (drop count rest) x (subst (λ ys. Contains ys x) rest_whole c)) [
          | inl d ↦ d
          | inr d ↦ absurd (never_below k (sym (turned k k) ∙ subst (λ y. is_gt (order y k) ≡ true) h.1
              (not-false (is_gt (order (key x) k)) (in_drop (λ y. is_upto k y ≡ false) count rest (λ j d' a b. high.1 j d' a b) x d))))
        ]
      ]),
    )

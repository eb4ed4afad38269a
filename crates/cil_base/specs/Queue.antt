-- A vector that is its own queue: it begins with some, and each in turn puts what it opens behind all others. At the end it
-- has exactly what is reached, and rises. One file for every such walk.
use Rattle.std.proofs.Common.{◌≡◌, ℕ, ◌+◌, ◌<◌, ◌≤◌, ◌⊎◌, List, ◌++◌, length, sym, ◌∙◌, ap, subst, inl, inr, arith}
use Rattle.std.specs.Prelude.{Contains, Some, slice_get}
use Rattle.std.specs.declared.cmp.Ordering.{Ordering}
use Rattle.std.specs.declared.cmp.Ordering.TheVariants.{Less}
use Rattle.std.specs.List.Sorted.{IsStrictlySortedBy}
use Rattle.std.proofs.lemmas.List.{length-append}
use Rattle.std.proofs.lemmas.List.Elements.{Contains-append_left, Contains-append_right, Contains-append_cases}
use Rattle.cil_base.specs.Lists.{Lists}
use Rattle.cil_base.specs.Places.{get_at, get_contains, get_in_front, in_range, some_same}
use Rattle.cil_base.specs.Rising.{IsOver, rising_join, rises_between}

module _ {X : Type 0} (order : X → X → Ordering) (start : List X) (opens : X → List X) where
  pub data IsReached : X → Type 0 where
    at_first : (x : X) → Contains start x → IsReached x
    onward : (x y : X) → IsReached x → Contains (opens x) y → IsReached y

  -- what the order has to do with what is opened
  pub record IsQueueOrder : Type 0 where
    pub start_rises : IsStrictlySortedBy order start
    pub each_rises : (x : X) → IsReached x → IsStrictlySortedBy order (opens x)
    pub behind_start : (x y b : X) → Contains start x → IsReached y → Contains (opens y) b → order x b ≡ Less
    pub later : (x y a b : X) → IsReached x → IsReached y → order x y ≡ Less → Contains (opens x) a → Contains (opens y) b → order a b ≡ Less

  pub record IsOpenedBefore (at : ℕ) (xs : List X) (x : X) : Type 0 where
    pub place : ℕ
    pub before : place < at
    pub opener : X
    pub is_opener : slice_get xs place ≡ Some opener
    pub is : Contains (opens opener) x

  pub record AreSoFar (at : ℕ) (xs : List X) : Type 0 where
    pub reached : (x : X) → Contains xs x → IsReached x
    pub begun : (x : X) → Contains start x → Contains xs x
    pub opened : (k : ℕ) (x y : X) → k < at → slice_get xs k ≡ Some x → Contains (opens x) y → Contains xs y
    pub rising : IsStrictlySortedBy order xs
    pub made : (x : X) → Contains xs x → Contains start x ⊎ IsOpenedBefore at xs x
    pub within : at ≤ length xs

  module _ (law : IsQueueOrder) where
    pub at_start : AreSoFar 0 start
    at_start = record {
      reached = λ x c. at_first x c;
      begun = λ x c. c;
      opened = λ k x y h e c. absurd (omega (arith, h));
      rising = law.start_rises;
      made = λ x c. inl c;
      within = omega arith;
    }

    pub one_opened : (at : ℕ) (xs : List X) (s : X) → slice_get xs at ≡ Some s → AreSoFar at xs → AreSoFar (at + 1) (xs ++ opens s)
    one_opened at xs s here so =
        let inside : at < length xs = in_range xs at s here in
        let w : IsReached s = so.reached s (get_contains xs at s here) in
        record {
          reached = λ x c. elim (Contains-append_cases xs (opens s) x c) [ inl d ↦ so.reached x d | inr d ↦ onward s x w d ];
          begun = λ x c. Contains-append_left xs (opens s) x (so.begun x c);
          opened = λ k x y h e c. elim (places k at h) [
            | inl below ↦ Contains-append_left xs (opens s) y (so.opened k x y below (sym (get_in_front xs (opens s) k (omega (arith, below, inside))) ∙ e) c)
            | inr same ↦ let one : x ≡ s = some_same x s (sym e ∙ get_in_front xs (opens s) k (omega (arith, same, inside)) ∙ ap (slice_get xs) same ∙ here) in
                Contains-append_right xs (opens s) y (subst (λ z. Contains (opens z) y) one c)
          ];
          rising = rising_join order xs (opens s) so.rising (law.each_rises s w) (λ x y c d. comes_before x y (so.made x c) w d);
          made = λ x c. elim (Contains-append_cases xs (opens s) x c) [
            | inl d ↦ kept x (so.made x d) inside
            | inr d ↦ inr (record { place = at; before = omega arith; opener = s; is_opener = get_in_front xs (opens s) at inside ∙ here; is = d })
          ];
          within = let l = length-append xs (opens s) in omega (arith, l, inside);
        } where
          places : (k n : ℕ) → k < n + 1 → (k < n) ⊎ (k ≡ n)
          places k n h = grind arith

          comes_before : (x y : X) → Contains start x ⊎ IsOpenedBefore at xs x → IsReached s → Contains (opens s) y → order x y ≡ Less
          comes_before x y (inl first) w d = law.behind_start x s y first w d
          comes_before x y (inr m) w d =
              law.later m.opener s x y (so.reached m.opener (get_contains xs m.place m.opener m.is_opener)) w
              (rises_between order xs m.place at m.opener s so.rising m.is_opener here m.before) m.is d

          kept : (x : X) → Contains start x ⊎ IsOpenedBefore at xs x → at < length xs → Contains start x ⊎ IsOpenedBefore (at + 1) (xs ++ opens s) x
          kept x (inl first) inside = inl first
          kept x (inr m) inside =
              let before = m.before in
              inr (record {
                place = m.place;
                before = omega (arith, before);
                opener = m.opener;
                is_opener = get_in_front xs (opens s) m.place (omega (arith, before, inside)) ∙ m.is_opener;
                is = m.is;
              })

  -- at the end all that is reached is there
  pub all_opened : (at : ℕ) (xs : List X) → length xs ≤ at → AreSoFar at xs → Lists order IsReached xs
  all_opened at xs over so = record { rising = so.rising; members = λ x. (so.reached x, there x) } where
    there : (x : X) → IsReached x → Contains xs x
    there x (at_first y c) = so.begun y c
    there x (onward y z r c) = let g = get_at xs y (there y r) in let h = g.1 in so.opened g.0 y z (omega (arith, h, over)) g.2 c

  pub too_many : (at limit : ℕ) (xs : List X) → limit < length xs → AreSoFar at xs → IsOver order IsReached limit
  too_many at limit xs h so = record { some = xs; rising = so.rising; each = so.reached; many = h }

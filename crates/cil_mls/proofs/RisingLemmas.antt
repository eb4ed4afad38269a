-- A list in which each item comes before the next is a rising list, and a rising list is such a one.
use Rattle.std.proofs.Common.{◌≡◌, ◌∙◌, ℕ, suc, ◌+◌, ◌<◌, Bool, true, false, List, [], ◌∷◌, length, get_or, ap, refl, add-one, arith}
use Rattle.std.specs.Prelude.{IsTrue}
use Rattle.std.specs.declared.cmp.Ordering.{Ordering}
use Rattle.std.specs.declared.cmp.Ordering.TheVariants.{Less, Equal, Greater}
use Rattle.std.specs.Ordering.{is_lt}
use Rattle.std.specs.Cmp.{IsTotalOrder}
use Rattle.std.specs.List.{AllByRecursion, IsAllAdjacentAnswer}
use Rattle.std.specs.List.Sorted.{IsStrictlySortedBy}
use Rattle.cil_base.proofs.SearchLemmas.{rising_at}

less_is : (o : Ordering) → true ≡ is_lt o → o ≡ Less
less_is Less e = refl
less_is Equal e = absurd cc
less_is Greater e = absurd cc

module _ {X : Type 0} (order : X → X → Ordering) (total : IsTotalOrder order) where
  -- what comes before the head of a rising list comes before all of it
  all_above : (x y : X) (ys : List X) → order x y ≡ Less → AllByRecursion (λ z. order y z ≡ Less) ys → AllByRecursion (λ z. order x z ≡ Less) ys
  all_above x y [] e all = tt
  all_above x y (z ∷ zs) e all = (total.trans x y z e all.0, all_above x y zs e all.1)

  rises : (xs : List X) → ((k : ℕ) (d : X) → suc k < length xs → order (get_or xs k d) (get_or xs (suc k) d) ≡ Less) → IsStrictlySortedBy order xs
  unfolding IsStrictlySortedBy
  rises [] adjacent = tt
  rises (x ∷ []) adjacent = (tt, tt)
  rises (x ∷ y ∷ ys) adjacent =
      let tail = rises (y ∷ ys) (λ k d h. adjacent (suc k) d (omega arith)) in
      let here = adjacent 0 x (omega arith) in
      ((here, all_above x y ys here tail.0), tail)

  -- what std's test of the neighbours says
  pub rises_where_sorted : (xs : List X) (r : Bool) → IsAllAdjacentAnswer (λ x y b. b ≡ is_lt (order x y)) xs r → IsTrue r → IsStrictlySortedBy order xs
  rises_where_sorted xs true answer e = rises xs (λ k d h. rw add-one at (less_is (order (get_or xs k d) (get_or xs (k + 1) d)) (answer k d (omega arith))))
  rises_where_sorted xs false answer e = absurd cc

  less_then : (o : Ordering) (b : Bool) → b ≡ is_lt o → o ≡ Less → b ≡ true
  less_then o b e less = e ∙ ap is_lt less

  pub sorted_where_rises : (xs : List X) (r : Bool) → IsAllAdjacentAnswer (λ x y b. b ≡ is_lt (order x y)) xs r → IsStrictlySortedBy order xs → IsTrue r
  sorted_where_rises xs true answer up = refl
  sorted_where_rises [] false answer up = absurd (let (k, within, not_less) = answer in omega (arith, within))
  sorted_where_rises (x ∷ xs) false answer up =
      let (k, within, not_less) = answer in
      let less : order (get_or (x ∷ xs) k x) (get_or (x ∷ xs) (k + 1) x) ≡ Less = rw add-one (rising_at order (x ∷ xs) k (suc k) x up (omega arith) (omega (arith, within))) in
      absurd (let f : false ≡ true = less_then _ false (not_less x) less in cc)

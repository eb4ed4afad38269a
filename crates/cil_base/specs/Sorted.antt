-- The list of a set, made by a sort and a removal of repeats.
use Rattle.std.specs.Prelude.{◌≡◌, true, List, Contains, refl}
use Rattle.std.specs.declared.cmp.Ordering.{Ordering}
use Rattle.std.specs.declared.cmp.Ordering.TheVariants.{Less, Equal, Greater}
use Rattle.std.specs.Ordering.{eq_by_cmp, is_eq}
use Rattle.std.specs.Cmp.{IsTotalOrder}
use Rattle.std.specs.List.{dedup}
use Rattle.std.specs.List.Sorted.{IsPermutation, IsSorted}
use Rattle.std.proofs.lemmas.Cmp.{eq_by_cmp_equiv}
use Rattle.std.proofs.lemmas.List.Kept.{Contains-dedup, Contains-from_dedup, IsStrictlySortedBy-dedup}
use Rattle.std.proofs.lemmas.List.Sorted.{Contains-permutation, IsPermutation-sym}
use Rattle.cil_base.specs.Lists.{Lists}

equal_where_eq : (o : Ordering) → is_eq o ≡ true → o ≡ Equal
equal_where_eq Less e = cc
equal_where_eq Equal e = refl
equal_where_eq Greater e = cc

module _ {X : Type 0} where
  -- a list of one set is a list of another with the same members
  pub lists_of : (order : X → X → Ordering) (P Q : X → Type 0) (xs : List X) → ((x : X) → P x → Q x) → ((x : X) → Q x → P x) → Lists order P xs → Lists order Q xs
  lists_of order P Q xs there back l = record {
    rising = l.rising;
    members = λ x. ((λ c. there x ((l.members x).0 c)), (λ q. (l.members x).1 (back x q)));
  }

  -- what stays of a sorted list without its repeats
  pub lists_sorted : (order : X → X → Ordering) → IsTotalOrder order → ((x y : X) → order x y ≡ Equal → x ≡ y) → (xs ys : List X)
      → IsPermutation xs ys → IsSorted order ys → Lists order (Contains xs) (dedup (eq_by_cmp order) ys)
  lists_sorted order total exact xs ys moved sorted = record {
    rising = IsStrictlySortedBy-dedup total (λ x y. refl) ys sorted;
    members = λ x. (
      (λ c. Contains-permutation ys xs x (IsPermutation-sym xs ys moved) (Contains-from_dedup (eq_by_cmp order) ys x c)),
      (λ c. Contains-dedup (eq_by_cmp_equiv total) (λ a b e. exact a b (equal_where_eq (order a b) e)) ys x (Contains-permutation xs ys x moved c)),
    );
  }

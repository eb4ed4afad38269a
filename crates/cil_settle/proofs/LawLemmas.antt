-- Which nodes go out is decided by the graph alone.
use Rattle.std.specs.Prelude.{◌≡◌, ◌⊎◌, ℕ, zero, suc, ◌+◌, ◌≤◌, Bool, true, false, ◌||◌, ◌==◌, List, length, take}
use Rattle.std.proofs.Common.{get_or, refl, sym, ◌∙◌, ap, subst, inl, inr, arith}
use Rattle.std.proofs.lemmas.List.{take_all, take_more}
use Rattle.cil_settle.specs.declared.edge.Edge.{Edge}
use Rattle.cil_base.specs.Among.{among, among_push, either, equal_number}
use Rattle.cil_settle.specs.Laws.{HasOneSet, IsBounded, IsClosed, IsLeast}
use Rattle.cil_settle.specs.Settled.{IsSettled}
use Rattle.cil_settle.specs.Sums.{hits_mono, walked_at_most, walked_same}

yes_or_no : (b : Bool) → (b ≡ true) ⊎ (b ≡ false)
yes_or_no true = inl refl
yes_or_no false = inr refl

same_test : (a b : Bool) → (a ≡ true → b ≡ true) → (b ≡ true → a ≡ true) → a ≡ b
same_test true b f g = sym (f refl)
same_test false true f g = g refl
same_test false false f g = refl

-- no node that has lost what it needs is left
is_closed : (edges : List Edge) (need order : List ℕ) → IsSettled edges need order → IsClosed edges need order
is_closed edges need order settled u within bound = elim (yes_or_no (among order u)) [
  | inl is ↦ is
  | inr is_not ↦ let rest = settled.rest u within is_not in absurd (omega (arith, bound, rest))
]

module _ (edges : List Edge) (need order out : List ℕ) (settled : IsSettled edges need order) (closed : IsClosed edges need out) where
  -- those before a node are in the closed set, so it has lost there what it needs
  first_are_in : (i : ℕ) → i ≤ length order → (v : ℕ) → among (take i order) v ≡ true → among out v ≡ true
  first_are_in zero l v h = absurd (let e : false ≡ true = h in cc)
  first_are_in (suc i) l v h =
      let node = get_or order i 0 in
      let again = first_are_in i (omega (arith, l)) in
      let number : suc i ≡ i + 1 = omega arith in
      let one_more : among (take (suc i) order) v ≡ (among (take i order) v || (node == v)) =
      ap (λ n. among (take n order) v) number ∙ ap (λ xs. among xs v) (take_more order i 0 (omega (arith, l))) ∙ among_push (take i order) node v in
      elim (either (among (take i order) v) (node == v) (sym one_more ∙ h)) [
        | inl before ↦ again v before
        | inr here ↦ subst (λ k. among out k ≡ true) (equal_number node v here)
            (closed node (settled.within i (omega (arith, l)))
            (let each = settled.each i (omega (arith, l)) in
            let more = hits_mono edges (take i order) out node again in omega (arith, each, more)))
      ]

  all_are_in : (v : ℕ) → among order v ≡ true → among out v ≡ true
  all_are_in v h = first_are_in (length order) (omega arith) v (subst (λ xs. among xs v ≡ true) (sym (take_all (length order) order (omega arith))) h)

pub least : IsLeast
least edges need order settled = (is_closed edges need order settled, λ out closed. all_are_in edges need order out settled closed)

pub one_set : HasOneSet
one_set edges need a b first second =
    let same : (u : ℕ) → among a u ≡ among b u = λ u. same_test (among a u) (among b u)
    (all_are_in edges need a b first (is_closed edges need b second) u) (all_are_in edges need b a second (is_closed edges need a first) u) in
    (same, walked_same edges a b same)

pub bounded : IsBounded
bounded = walked_at_most

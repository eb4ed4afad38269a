-- A part of a list is what passes a test.
use Rattle.std.specs.Prelude.{take, drop}
use Rattle.std.proofs.Common.{◌≡◌, ℕ, zero, suc, ◌+◌, ◌-◌, ◌<◌, ◌≤◌, Bool, true, false, cond, List, [], ◌∷◌, length, get_or, refl, sym, ap, subst, ◌∙◌, inl, inr, arith}
use Rattle.std.specs.Prelude.{◌⊎◌, ◌==◌}
use Rattle.std.specs.List.{filter}
use Rattle.std.specs.List.Sorted.{IsPartitionPoint}
use Rattle.std.proofs.Math.Dec.{ltb, leb}
use Rattle.std.proofs.lemmas.Bool.Decides.{nat_tests}
use Rattle.std.proofs.lemmas.List.{get_or-drop, length-drop}
use Rattle.cil_settle.specs.declared.edge.Edge.{Edge}

module _ {X : Type 0} (p : X → Bool) where
  kept : (x : X) (xs : List X) → p x ≡ true → filter p (x ∷ xs) ≡ x ∷ filter p xs
  kept x xs e = ap (λ b. cond b (x ∷ filter p xs) (filter p xs)) e

  dropped : (x : X) (xs : List X) → p x ≡ false → filter p (x ∷ xs) ≡ filter p xs
  dropped x xs e = ap (λ b. cond b (x ∷ filter p xs) (filter p xs)) e

  pub part_is : (xs : List X) (a m : ℕ) → a + m ≤ length xs → ((k : ℕ) (d : X) → k < a → p (get_or xs k d) ≡ false)
      → ((k : ℕ) (d : X) → a ≤ k → k < a + m → p (get_or xs k d) ≡ true) → ((k : ℕ) (d : X) → a + m ≤ k → k < length xs → p (get_or xs k d) ≡ false)
      → take m (drop a xs) ≡ filter p xs
  part_is [] zero zero l low mid high = refl
  part_is [] zero (suc m) l low mid high = refl
  part_is [] (suc a) zero l low mid high = refl
  part_is [] (suc a) (suc m) l low mid high = refl
  part_is (x ∷ xs) (suc a) m l low mid high =
      part_is xs a m (omega (arith, l)) (λ k d b. low (suc k) d (omega (arith, b))) (λ k d b c. mid (suc k) d (omega (arith, b)) (omega (arith, c)))
      (λ k d b c. high (suc k) d (omega (arith, b)) (omega (arith, c))) ∙ sym (dropped x xs (low 0 x (omega arith)))
  part_is (x ∷ xs) zero (suc m) l low mid high =
      ap (λ ys. x ∷ ys) (part_is xs zero m (omega (arith, l)) (λ k d b. absurd (omega (arith, b))) (λ k d b c. mid (suc k) d (omega arith) (omega (arith, c)))
      (λ k d b c. high (suc k) d (omega (arith, b)) (omega (arith, c)))) ∙ sym (kept x xs (mid 0 x (omega arith) (omega arith)))
  part_is (x ∷ xs) zero zero l low mid high =
      part_is xs zero zero (omega arith) (λ k d b. absurd (omega (arith, b))) (λ k d b c. absurd (omega (arith, c))) (λ k d b c. high (suc k) d (omega arith) (omega (arith, c)))
      ∙ sym (dropped x xs (high 0 x (omega arith) (omega arith)))

ltb_true : (a b : ℕ) → ltb a b ≡ true → a < b
ltb_true a b e = grind (arith, nat_tests)

ltb_false : (a b : ℕ) → ltb a b ≡ false → b ≤ a
ltb_false a b e = grind (arith, nat_tests)

leb_true : (a b : ℕ) → leb a b ≡ true → a ≤ b
leb_true a b e = grind (arith, nat_tests)

leb_false : (a b : ℕ) → leb a b ≡ false → b < a
leb_false a b e = grind (arith, nat_tests)

pub point_below : (edges : List Edge) (v i : ℕ) → IsPartitionPoint (λ e. ltb e.from v ≡ true) (λ e. ltb e.from v ≡ false) edges i → IsPartitionPoint (λ e. e.from < v) (λ e. v ≤ e.from) edges i
point_below edges v i p = (λ k d a b. ltb_true _ _ (p.0 k d a b), λ k d a b. ltb_false _ _ (p.1 k d a b))

pub point_up_to : (edges : List Edge) (v i : ℕ) → IsPartitionPoint (λ e. leb e.from v ≡ true) (λ e. leb e.from v ≡ false) edges i → IsPartitionPoint (λ e. e.from ≤ v) (λ e. v < e.from) edges i
point_up_to edges v i p = (λ k d a b. leb_true _ _ (p.0 k d a b), λ k d a b. leb_false _ _ (p.1 k d a b))

not_it : (a v : ℕ) → (a < v) ⊎ (v < a) → (a == v) ≡ false
not_it a v l = grind (arith, nat_tests)

it : (a v : ℕ) → a ≤ v → v ≤ a → (a == v) ≡ true
it a v l m = grind (arith, nat_tests)

beyond : (a k : ℕ) → a ≤ k → (j : ℕ) × (k ≡ a + j)
beyond a k l = (k - a, omega (arith, l))

-- what is known of an element of the rest, of the element itself
from_rest : (P : Edge → Type 0) (edges : List Edge) (a k j : ℕ) (d : Edge) → k ≡ a + j → P (get_or (drop a edges) j d) → P (get_or edges k d)
from_rest P edges a k j d e h = subst P (get_or-drop a edges j d ∙ ap (λ z. get_or edges z d) (sym e)) h

-- the part between both places is what leaves the thing
pub row_is : (edges : List Edge) (v a m : ℕ) → a ≤ length edges → m ≤ length (drop a edges) → IsPartitionPoint (λ e. e.from < v) (λ e. v ≤ e.from) edges a
    → IsPartitionPoint (λ e. e.from ≤ v) (λ e. v < e.from) (drop a edges) m → take m (drop a edges) ≡ filter (λ e. e.from == v) edges
row_is edges v a m l n p q =
    let len = length-drop a edges in
    part_is (λ e. e.from == v) edges a m (omega (arith, l, n, len)) (λ k d b. not_it _ _ (inl (p.0 k d (omega arith) b)))
    (λ k d b c.
    let at = beyond a k b in
    it _ _ (from_rest (λ e. e.from ≤ v) edges a k at.0 d at.1 (q.0 at.0 d (omega arith) (let e = at.1 in omega (arith, e, c)))) (p.1 k d b (omega (arith, c, l, n, len))))
    (λ k d b c.
    let at = beyond a k (omega (arith, b)) in
    not_it _ _ (inr (from_rest (λ e. v < e.from) edges a k at.0 d at.1 (q.1 at.0 d (let e = at.1 in omega (arith, e, b)) (let e = at.1 in omega (arith, e, c, len))))))

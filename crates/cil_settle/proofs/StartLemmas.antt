-- The nodes that are out from the start.
use Rattle.std.specs.Prelude.{◌⊎◌, take}
use Rattle.std.proofs.Common.{◌≡◌, ◌≢◌, ℕ, zero, suc, ◌+◌, ◌<◌, ◌≤◌, true, false, List, [], ◌∷◌, ◌++◌, length, get_or, refl, sym, ap, subst, inl, inr, arith}
use Rattle.std.proofs.lemmas.List.Sums.{count_by_more_yes, count_by_more_no}
use Rattle.std.proofs.lemmas.Bool.Decides.{nat_tests}
use Rattle.std.proofs.lemmas.Grind.{common_steps}
use Rattle.cil_base.specs.Among.{among, among_push}
use Rattle.cil_settle.specs.Walk.{IsStarted, is_left}

-- the nodes before a pushed one are as they were, and it is behind all
pub fresh_push : (order : List ℕ) (v : ℕ) → among order v ≡ false → ((k : ℕ) → k < length order → among (take k order) (get_or order k 0) ≡ false)
    → (k : ℕ) → k < length (order ++ v ∷ []) → among (take k (order ++ v ∷ [])) (get_or (order ++ v ∷ []) k 0) ≡ false
fresh_push order v new old k l = grind (arith, common_steps)

-- a node at or behind i is not among those below i
none_at : (order : List ℕ) (i u : ℕ) → ((k : ℕ) → k < length order → get_or order k 0 < i) → i ≤ u → among order u ≡ false
none_at [] i u within l = refl
none_at (v ∷ order) i u within l =
    let here = within 0 (omega arith) in
    let rest = none_at order i u (λ k b. within (suc k) (omega (arith, b))) l in grind (arith, nat_tests)

below_or_at : (u i : ℕ) → u < i + 1 → (u < i) ⊎ (u ≡ i)
below_or_at u i l = grind arith

abbrev Found : List ℕ → List ℕ → ℕ → Type 0
Found left order u = ((get_or left u 0 ≡ 0) × (among order u ≡ true)) ⊎ ((0 < get_or left u 0) × (among order u ≡ false))

push_same : (order : List ℕ) (i : ℕ) → among (order ++ i ∷ []) i ≡ true
push_same order i = let e = among_push order i i in grind (arith, nat_tests)

push_other : (left order : List ℕ) (i u : ℕ) → u ≢ i → Found left order u → Found left (order ++ i ∷ []) u
push_other left order i u d f = let e = among_push order i u in grind (arith, nat_tests)

pub started_yes : (left order : List ℕ) (i : ℕ) → i < length left → get_or left i 0 ≡ 0 → IsStarted left order i → IsStarted left (order ++ i ∷ []) (i + 1)
started_yes left order i l e s = record {
  each = λ u b. elim (below_or_at u i b) [
    | inl c ↦ push_other left order i u (λ q. omega (arith, q, c)) (s.each u c)
    | inr q ↦ inl (subst (λ k. get_or left k 0 ≡ 0) (sym q) e, subst (λ k. among (order ++ i ∷ []) k ≡ true) (sym q) (push_same order i))
  ];
  within = λ k b. let old : (j : ℕ) → j < length order → get_or order j 0 < i = s.within in grind (arith, common_steps);
  fresh = fresh_push order i (none_at order i i s.within (omega arith)) s.fresh;
  room = let r = s.room in let c = count_by_more_no is_left left i 0 l (ap is_left e) in grind (arith, common_steps);
}

is_left_so : (k : ℕ) → (k ≡ 0 → ⊥) → is_left k ≡ true
is_left_so zero f = absurd (f refl)
is_left_so (suc k) f = refl

pub started_no : (left order : List ℕ) (i : ℕ) → i < length left → (get_or left i 0 ≡ 0 → ⊥) → IsStarted left order i → IsStarted left order (i + 1)
started_no left order i l e s = record {
  each = λ u b. elim (below_or_at u i b) [
    | inl c ↦ s.each u c
    | inr q ↦ inr (
      subst (λ k. 0 < get_or left k 0) (sym q) (grind arith),
      subst (λ k. among order k ≡ false) (sym q) (none_at order i i s.within (omega arith)),
    )
  ];
  within = λ k b. let h = s.within k b in omega (arith, h);
  fresh = s.fresh;
  room = let r = s.room in let c = count_by_more_yes is_left left i 0 l (is_left_so (get_or left i 0) e) in omega (arith, r, c);
}

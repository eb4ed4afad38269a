-- Small graphs, by the definitions.
use Rattle.std.specs.Prelude.{◌≡◌, ℕ, zero, suc, ◌<◌, ◌≤◌, true, false, List, [], ◌∷◌, take, refl}
use Rattle.std.proofs.Common.{get_or, arith}
use Rattle.cil_settle.specs.declared.edge.Edge.{Edge}
use Rattle.cil_base.specs.Among.{among}
use Rattle.cil_settle.specs.Settled.{hits, needs, IsSettled, walked}

abbrev edge : ℕ → ℕ → Edge
edge from to = record { from = from; to = to; counted = false }

abbrev look_up : ℕ → ℕ → Edge
look_up from to = record { from = from; to = to; counted = true }

-- ---- two optionals: the first declares x and names y, the second declares y and names what nobody declares

-- the optionals are 0 and 3, what they declare 1 and 4, and the words 2 and 5
abbrev chain : List Edge
chain = look_up 0 1 ∷ edge 2 0 ∷ look_up 3 4 ∷ look_up 4 2 ∷ edge 5 3 ∷ []

abbrev chain_need : List ℕ
chain_need = 1 ∷ 1 ∷ 1 ∷ 1 ∷ 1 ∷ 0 ∷ []

abbrev chain_order : List ℕ
chain_order = 5 ∷ 3 ∷ 4 ∷ 2 ∷ 0 ∷ 1 ∷ []

chain_look_ups : walked chain chain_order ≡ 3
unfolding walked
chain_look_ups = refl

six : (P : ℕ → Type 0) → P 0 → P 1 → P 2 → P 3 → P 4 → P 5 → (i : ℕ) → i < 6 → P i
six P a b c d e f zero l = a
six P a b c d e f (suc zero) l = b
six P a b c d e f (suc (suc zero)) l = c
six P a b c d e f (suc (suc (suc zero))) l = d
six P a b c d e f (suc (suc (suc (suc zero)))) l = e
six P a b c d e f (suc (suc (suc (suc (suc zero))))) l = f
six P a b c d e f (suc (suc (suc (suc (suc (suc i)))))) l = absurd (omega (arith, l))

small : (a : ℕ) → a < 6 → a < 6
small a l = l

-- one support is lost, and one is all that it needs
one : 1 ≤ 1
one = omega arith

not_so : true ≡ false → ⊥
not_so e = cc

chain_settles : IsSettled chain chain_need chain_order
unfolding hits
chain_settles = record {
  within = six (λ i. get_or chain_order i 0 < 6)
      (small 5 (omega arith)) (small 3 (omega arith)) (small 4 (omega arith)) (small 2 (omega arith)) (small 0 (omega arith)) (small 1 (omega arith));
  fresh = six (λ i. among (take i chain_order) (get_or chain_order i 0) ≡ false) refl refl refl refl refl refl;
  each = six (λ i. needs chain_need (get_or chain_order i 0) ≤ hits chain (take i chain_order) (get_or chain_order i 0))
      (let none : 0 ≤ 0 = omega arith in none) one one one one one;
  rest = six (λ u. among chain_order u ≡ false → hits chain chain_order u < needs chain_need u)
      (λ e. absurd (not_so e)) (λ e. absurd (not_so e)) (λ e. absurd (not_so e)) (λ e. absurd (not_so e)) (λ e. absurd (not_so e)) (λ e. absurd (not_so e));
}

-- ---- a cycle of two

abbrev cycle : List Edge
cycle = edge 0 1 ∷ edge 1 0 ∷ []

abbrev one_each : List ℕ
one_each = 1 ∷ 1 ∷ []

two : (P : ℕ → Type 0) → P 0 → P 1 → (i : ℕ) → i < 2 → P i
two P a b zero l = a
two P a b (suc zero) l = b
two P a b (suc (suc i)) l = absurd (omega (arith, l))

-- each has its support, so both stay
cycle_stays : IsSettled cycle one_each []
unfolding hits
cycle_stays = record {
  within = λ i l. absurd (omega (arith, l));
  fresh = λ i l. absurd (omega (arith, l));
  each = λ i l. absurd (omega (arith, l));
  rest = two (λ u. among [] u ≡ false → hits cycle [] u < needs one_each u)
      (λ e. let left : 0 < 1 = omega arith in left) (λ e. let left : 0 < 1 = omega arith in left);
}

-- and neither can go out first
cycle_goes : IsSettled cycle one_each (0 ∷ 1 ∷ []) → ⊥
unfolding hits
cycle_goes s = let first : 1 ≤ 0 = s.each 0 (omega arith) in omega (arith, first)

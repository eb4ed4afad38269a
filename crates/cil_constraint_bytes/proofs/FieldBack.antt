-- Variables, operations and pairs are read back from their bytes.
use Rattle.std.proofs.Common.{◌≡◌, ℕ, zero, suc, ◌⊎◌, Bool, true, false, ltb, eqb, ◌<◌, refl, ap, arith, inl, inr}
use Rattle.std.proofs.lemmas.Bool.{ne_eqb}
use Rattle.cil_constraints.specs.Order.{variable_byte, equality_byte, relation_byte}
use Rattle.cil_constraint_bytes.specs.Layout.{part_by, side_by, equality_by, relation_by, is_part, pairs_with, operations, tag_of, pair_of, pair_parts}

pub equality_back : (op : ℕ) → ltb op 2 ≡ true → equality_byte (equality_by op) ≡ op
equality_back zero lt = refl
equality_back (suc zero) lt = refl
equality_back (suc (suc n)) lt = absurd (grind (arith, lt))

pub relation_back : (op : ℕ) → ltb op 5 ≡ true → relation_byte (relation_by op) ≡ op
relation_back zero lt = refl
relation_back (suc zero) lt = refl
relation_back (suc (suc zero)) lt = refl
relation_back (suc (suc (suc zero))) lt = refl
relation_back (suc (suc (suc (suc zero)))) lt = refl
relation_back (suc (suc (suc (suc (suc n))))) lt = absurd (grind (arith, lt))

pub variable_back : (v : ℕ) → ltb v 6 ≡ true → variable_byte (part_by v) (side_by v) ≡ v
variable_back zero lt = refl
variable_back (suc zero) lt = refl
variable_back (suc (suc zero)) lt = refl
variable_back (suc (suc (suc zero))) lt = refl
variable_back (suc (suc (suc (suc zero)))) lt = refl
variable_back (suc (suc (suc (suc (suc zero))))) lt = refl
variable_back (suc (suc (suc (suc (suc (suc n)))))) lt = absurd (grind (arith, lt))

-- the nine pairs
abbrev Parts : ℕ → ℕ → Type 0
Parts u v = ((u ≡ 0) × (v ≡ 1)) ⊎ (((u ≡ 2) × (v ≡ 3)) ⊎ ((u ≡ 4) × (v ≡ 5)))

abbrev Lows : ℕ → ℕ → Type 0
Lows u v = ((u ≡ 6) × (v ≡ 7)) ⊎ (((u ≡ 6) × (v ≡ 8)) ⊎ ((u ≡ 6) × (v ≡ 9)))

abbrev Highs : ℕ → ℕ → Type 0
Highs u v = ((u ≡ 7) × (v ≡ 9)) ⊎ (((u ≡ 8) × (v ≡ 7)) ⊎ ((u ≡ 8) × (v ≡ 9)))

false_true : false ≡ true → ⊥
false_true e = absurd cc

paired : (u v : ℕ) → pairs_with u v ≡ true → Parts u v ⊎ (Lows u v ⊎ Highs u v)
paired zero v e = grind arith
paired (suc zero) v e = grind arith
paired (suc (suc zero)) v e = grind arith
paired (suc (suc (suc zero))) v e = grind arith
paired (suc (suc (suc (suc zero)))) v e = grind arith
paired (suc (suc (suc (suc (suc zero))))) v e = grind arith
paired (suc (suc (suc (suc (suc (suc zero)))))) v e = grind arith
paired (suc (suc (suc (suc (suc (suc (suc zero))))))) v e = grind arith
paired (suc (suc (suc (suc (suc (suc (suc (suc zero)))))))) v e = grind arith
paired (suc (suc (suc (suc (suc (suc (suc (suc (suc n))))))))) v e =
    let u = suc (suc (suc (suc (suc (suc (suc (suc (suc n)))))))) in
    let is_not : (k : ℕ) → k < 9 → eqb u k ≡ false = λ k lt. ne_eqb u k (λ same. omega (arith, lt, same)) in
    let e0 = is_not 0 (omega arith) in
    let e2 = is_not 2 (omega arith) in
    let e4 = is_not 4 (omega arith) in
    let e6 = is_not 6 (omega arith) in
    let e7 = is_not 7 (omega arith) in
    let e8 = is_not 8 (omega arith) in
    absurd (false_true (rw (e0, e2, e4, e6, e7, e8) at e))

pub pair_back : (u v op : ℕ) → pairs_with u v ≡ true → ltb op (operations u) ≡ true → pair_parts (pair_of (u, (v, op))) ≡ (u, (v, op))
pair_back u v op e lt =
    elim (paired u v e) [
      | inl (inl (eu, ev)) ↦ rw (eu, ev) (ap (λ (n : ℕ). (0, (1, n))) (equality_back op (rw eu at lt)))
      | inl (inr (inl (eu, ev))) ↦ rw (eu, ev) (ap (λ (n : ℕ). (2, (3, n))) (equality_back op (rw eu at lt)))
      | inl (inr (inr (eu, ev))) ↦ rw (eu, ev) (ap (λ (n : ℕ). (4, (5, n))) (equality_back op (rw eu at lt)))
      | inr (inl (inl (eu, ev))) ↦ rw (eu, ev) (ap (λ (n : ℕ). (6, (7, n))) (relation_back op (rw eu at lt)))
      | inr (inl (inr (inl (eu, ev)))) ↦ rw (eu, ev) (ap (λ (n : ℕ). (6, (8, n))) (relation_back op (rw eu at lt)))
      | inr (inl (inr (inr (eu, ev)))) ↦ rw (eu, ev) (ap (λ (n : ℕ). (6, (9, n))) (relation_back op (rw eu at lt)))
      | inr (inr (inl (eu, ev))) ↦ rw (eu, ev) (ap (λ (n : ℕ). (7, (9, n))) (relation_back op (rw eu at lt)))
      | inr (inr (inr (inl (eu, ev)))) ↦ rw (eu, ev) (ap (λ (n : ℕ). (8, (7, n))) (relation_back op (rw eu at lt)))
      | inr (inr (inr (inr (eu, ev)))) ↦ rw (eu, ev) (ap (λ (n : ℕ). (8, (9, n))) (relation_back op (rw eu at lt)))
    ]

-- whatever a pair is, its tag is 16
pub pair_tag : (p : ℕ × (ℕ × ℕ)) → tag_of (pair_of p) ≡ 16
pair_tag p = go (is_part p.0) refl
  where
    go : (b : Bool) → is_part p.0 ≡ b → tag_of (pair_of p) ≡ 16
    go true e = rw e refl
    go false e = rw e refl

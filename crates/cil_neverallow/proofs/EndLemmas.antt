-- The types that two rules reach together.
use Rattle.std.specs.Prelude.{Contains, MatchOption, Option, None, Some, option_map, IsBitSet, bit_and}
use Rattle.std.specs.Int.{trailing_zeros}
use Rattle.std.specs.Ordering.{nat_cmp, ordering_reverse, ordering_then}
use Rattle.std.specs.declared.cmp.Ordering.{Ordering}
use Rattle.std.specs.declared.cmp.Ordering.TheVariants.{Less, Equal, Greater}
use Rattle.std.proofs.Common.{◌≡◌, ℕ, zero, suc, ◌<◌, ◌≤◌, ◌^◌, List, refl, sym, ◌∙◌, ap, subst, inl, inr, arith, w32}
use Rattle.std.proofs.lemmas.Bool.{cases_lt}
use Rattle.std.proofs.lemmas.Cmp.{nat_cmp_total}
use Rattle.std.proofs.lemmas.Nat.Bits.{bit_at-trailing_zeros}
use Rattle.cil_base.specs.Paths.{below_by, equal_from, less_from}
use Rattle.cil_index.proofs.classes_lemmas.BitLemmas.{none_set, set_in_both, set_is_one}
use Rattle.cil_sets.specs.Answers.{IsLeastCommon, IsNextFrom}
use Rattle.cil_index.specs.rules.Covers.{Reaches}
use Rattle.cil_index.specs.rules.Rule.{Rule, Types, Itself}
use Rattle.cil_neverallow.specs.declared.overlap.Climb.{Climb}
use Rattle.cil_neverallow.specs.declared.overlap.Ends.{Ends}
use Rattle.cil_neverallow.specs.declared.overlap.Overlap.{Overlap}
use Rattle.cil_neverallow.specs.Overlaps.{BothHold, IsLeastOf}
use Rattle.cil_neverallow.specs.Ends.{AreFirstReached, AreInAll, AreInBoth, AreReached, IsClimb, IsLeastIn, IsUpTo, end_at}

-- ---- what sets have in common

module _ (a b : List ℕ) where
  pub common_least : (found : Option ℕ) → MatchOption found ((v : ℕ) → Contains a v → Contains b v → ⊥) (IsLeastCommon a b)
      → MatchOption found ((t : ℕ) → AreInBoth a b t → ⊥) (IsLeastIn (AreInBoth a b))
  common_least None none = λ t both. none t both.in_first both.in_second
  common_least (Some v) is = record { is = record { in_first = is.first; in_second = is.second }; least = λ m both. is.least m both.in_first both.in_second }

-- sets that are equal have the same in common
pub in_both_of : (a b x y : List ℕ) → x ≡ a → y ≡ b → (found : Option ℕ) → MatchOption found ((t : ℕ) → AreInBoth x y t → ⊥) (IsLeastIn (AreInBoth x y))
    → MatchOption found ((t : ℕ) → AreInBoth a b t → ⊥) (IsLeastIn (AreInBoth a b))
in_both_of a b x y e f found is =
    subst (λ z. MatchOption found ((t : ℕ) → AreInBoth z b t → ⊥) (IsLeastIn (AreInBoth z b))) e
    (subst (λ z. MatchOption found ((t : ℕ) → AreInBoth x z t → ⊥) (IsLeastIn (AreInBoth x z))) f is)

pub in_all_of : (a b c x y z : List ℕ) → x ≡ a → y ≡ b → z ≡ c → (found : Option ℕ) → MatchOption found ((t : ℕ) → AreInAll x y z t → ⊥) (IsLeastIn (AreInAll x y z))
    → MatchOption found ((t : ℕ) → AreInAll a b c t → ⊥) (IsLeastIn (AreInAll a b c))
in_all_of a b c x y z e f g found is =
    subst (λ w. MatchOption found ((t : ℕ) → AreInAll w b c t → ⊥) (IsLeastIn (AreInAll w b c))) e
    (subst (λ w. MatchOption found ((t : ℕ) → AreInAll x w c t → ⊥) (IsLeastIn (AreInAll x w c))) f
    (subst (λ w. MatchOption found ((t : ℕ) → AreInAll x y w t → ⊥) (IsLeastIn (AreInAll x y w))) g is))

module _ (a b c : List ℕ) (start : ℕ) where
  pub none_from : ((v : ℕ) → Contains a v → start ≤ v → ⊥) → (t : ℕ) → AreInAll a b c t → start ≤ t → ⊥
  none_from none t all up = none t all.in_first up

  pub none_middle : (from : ℕ) → IsNextFrom a start from → ((v : ℕ) → Contains b v → from ≤ v → ⊥) → (t : ℕ) → AreInAll a b c t → start ≤ t → ⊥
  none_middle from first none t all up = none t all.in_second (first.least t all.in_first up)

  pub none_to : (from middle : ℕ) → IsNextFrom a start from → IsNextFrom b from middle → ((v : ℕ) → Contains c v → middle ≤ v → ⊥) → (t : ℕ) → AreInAll a b c t → start ≤ t → ⊥
  none_to from middle first second none t all up = none t all.in_third (second.least t all.in_second (first.least t all.in_first up))

  pub is_climb : (from middle to : ℕ) → IsNextFrom a start from → IsNextFrom b from middle → IsNextFrom c middle to → IsClimb a b c start (record { from = from; to = to })
  is_climb from middle to first second third =
      let low = first.after in
      let mid = second.after in
      let high = third.after in
      record {
        up = low;
        rest = omega (arith, mid, high);
        least = λ t all up. third.least t all.in_third (second.least t all.in_second (first.least t all.in_first up));
        meets = λ same. record {
          in_first = subst (Contains a) same first.member;
          in_second = let e : middle ≡ to = omega (arith, mid, high, same) in subst (Contains b) e second.member;
          in_third = third.member;
        };
      }

  pub climb_ends : (k : Climb) → ((t : ℕ) → AreInAll a b c t → start ≤ t) → IsClimb a b c start k → k.from ≡ k.to → IsLeastIn (AreInAll a b c) k.to
  climb_ends k from_start climb same = record { is = climb.meets same; least = λ m all. climb.least m all (from_start m all) }

-- ---- the first source and target

module _ (r q : Rule) where
  module _ (x y : List ℕ) (is_x : r.target ≡ Types x) (is_y : q.target ≡ Types y) where
    targets_of : (s t : ℕ) → AreReached r q s t → AreInBoth x y t
    targets_of s t e = record { in_first = subst (λ z. Reaches z s t) is_x e.first_target; in_second = subst (λ z. Reaches z s t) is_y e.second_target }

    pub no_target : ((t : ℕ) → AreInBoth x y t → ⊥) → (s t : ℕ) → AreReached r q s t → ⊥
    no_target none s t e = none t (targets_of s t e)

    pub two_ends : (s t : ℕ) → IsLeastIn (AreInBoth r.source q.source) s → IsLeastIn (AreInBoth x y) t → AreFirstReached r q (record { source = s; target = t })
    two_ends s t least_s least_t = record {
      reached = record {
        first_source = least_s.is.in_first;
        second_source = least_s.is.in_second;
        first_target = subst (λ z. Reaches z s t) (sym is_x) least_t.is.in_first;
        second_target = subst (λ z. Reaches z s t) (sym is_y) least_t.is.in_second;
      };
      least = λ u v e. up_to u v (least_s.least u (record { in_first = e.first_source; in_second = e.second_source })) (least_t.least v (targets_of u v e));
    }
      where
        up_to : (u v : ℕ) → s ≤ u → t ≤ v → IsUpTo s t u v
        up_to u v p o = elim (cases_lt s u) [ inl less ↦ inl less | inr ge ↦ inr (omega (arith, p, ge), o) ]

  pub no_source : ((t : ℕ) → AreInBoth r.source q.source t → ⊥) → (s t : ℕ) → AreReached r q s t → ⊥
  no_source none s t e = none s (record { in_first = e.first_source; in_second = e.second_source })

  -- where a rule reaches the source itself, source and target are one type
  module _ (P : ℕ → Type 0) (there : (s : ℕ) → P s → AreReached r q s s) (back : (s t : ℕ) → AreReached r q s t → (s ≡ t) × P s) where
    pub one_end_of : (found : Option ℕ) → MatchOption found ((t : ℕ) → P t → ⊥) (IsLeastIn P) → MatchOption (option_map end_at found) ((s t : ℕ) → AreReached r q s t → ⊥) (AreFirstReached r q)
    one_end_of None none = λ s t e. none s (back s t e).1
    one_end_of (Some s) least = record {
      reached = there s least.is;
      least = λ u v e. up_to u v (back u v e).0 (least.least u (back u v e).1);
    }
      where
        up_to : (u v : ℕ) → u ≡ v → s ≤ u → IsUpTo s s u v
        up_to u v e p = elim (cases_lt s u) [ inl less ↦ inl less | inr ge ↦ inr (omega (arith, p, ge), omega (arith, p, e)) ]

  pub both_there : r.target ≡ Itself → q.target ≡ Itself → (s : ℕ) → AreInBoth r.source q.source s → AreReached r q s s
  both_there is_r is_q s e = record {
    first_source = e.in_first;
    second_source = e.in_second;
    first_target = subst (λ z. Reaches z s s) (sym is_r) refl;
    second_target = subst (λ z. Reaches z s s) (sym is_q) refl;
  }

  pub both_back : r.target ≡ Itself → (s t : ℕ) → AreReached r q s t → (s ≡ t) × AreInBoth r.source q.source s
  both_back is_r s t e = (subst (λ z. Reaches z s t) is_r e.first_target, record { in_first = e.first_source; in_second = e.second_source })

  pub first_there : (x : List ℕ) → r.target ≡ Itself → q.target ≡ Types x → (s : ℕ) → AreInAll r.source q.source x s → AreReached r q s s
  first_there x is_r is_q s e = record {
    first_source = e.in_first;
    second_source = e.in_second;
    first_target = subst (λ z. Reaches z s s) (sym is_r) refl;
    second_target = subst (λ z. Reaches z s s) (sym is_q) e.in_third;
  }

  pub first_back : (x : List ℕ) → r.target ≡ Itself → q.target ≡ Types x → (s t : ℕ) → AreReached r q s t → (s ≡ t) × AreInAll r.source q.source x s
  first_back x is_r is_q s t e =
      let same : s ≡ t = subst (λ z. Reaches z s t) is_r e.first_target in
      (same, record { in_first = e.first_source; in_second = e.second_source; in_third = subst (Contains x) (sym same) (subst (λ z. Reaches z s t) is_q e.second_target) })

  pub second_there : (x : List ℕ) → r.target ≡ Types x → q.target ≡ Itself → (s : ℕ) → AreInAll r.source q.source x s → AreReached r q s s
  second_there x is_r is_q s e = record {
    first_source = e.in_first;
    second_source = e.in_second;
    first_target = subst (λ z. Reaches z s s) (sym is_r) e.in_third;
    second_target = subst (λ z. Reaches z s s) (sym is_q) refl;
  }

  pub second_back : (x : List ℕ) → r.target ≡ Types x → q.target ≡ Itself → (s t : ℕ) → AreReached r q s t → (s ≡ t) × AreInAll r.source q.source x s
  second_back x is_r is_q s t e =
      let same : s ≡ t = subst (λ z. Reaches z s t) is_q e.second_target in
      (same, record { in_first = e.first_source; in_second = e.second_source; in_third = subst (Contains x) (sym same) (subst (λ z. Reaches z s t) is_r e.first_target) })

-- ---- masks

pub positive : (n : ℕ) → (n ≡ 0 → ⊥) → 0 < n
positive zero f = absurd (f refl)
positive (suc n) f = omega arith

pub small : (n : ℕ) → n < 4294967296 → n < 2 ^ 32
small n l = l

-- ---- two rules

module _ (r q : Rule) where
  pub other_class : (r.class ≡ q.class → ⊥) → (o : Overlap) → BothHold r q o → ⊥
  other_class differs o both = differs (both.first.of_class ∙ sym both.second.of_class)

  pub nothing_shared : bit_and r.mask q.mask ≡ 0 → (o : Overlap) → BothHold r q o → ⊥
  nothing_shared empty o both = none_set o.bit (subst (λ m. IsBitSet m o.bit) empty ((set_in_both r.mask q.mask o.bit).1 (both.first.permits, both.second.permits)))

  pub no_ends : ((s t : ℕ) → AreReached r q s t → ⊥) → (o : Overlap) → BothHold r q o → ⊥
  no_ends none o both = none o.source o.target (record { first_source = both.first.has_source; second_source = both.second.has_source; first_target = both.first.has_target; second_target = both.second.has_target })

  -- the least ends and the least permission are the least of all
  pub least_shared : r.class ≡ q.class → (shared : ℕ) → shared ≡ bit_and r.mask q.mask → 0 < shared → shared < 2 ^ 32 → (e : Ends) → AreFirstReached r q e
      → IsLeastOf (BothHold r q) (record { source = e.source; target = e.target; class = r.class; bit = trailing_zeros w32 shared })
  least_shared same shared are some small e ends =
      let low = bit_at-trailing_zeros w32 shared some small in
      let set = (set_is_one shared (trailing_zeros w32 shared)).1 low.1 in
      let both = (set_in_both r.mask q.mask (trailing_zeros w32 shared)).0 (subst (λ m. IsBitSet m (trailing_zeros w32 shared)) are set) in
      record {
        is = record {
          first = record { has_source = ends.reached.first_source; has_target = ends.reached.first_target; of_class = refl; permits = both.0 };
          second = record { has_source = ends.reached.second_source; has_target = ends.reached.second_target; of_class = sym same; permits = both.1 };
        };
        least = λ p both less. not_less e.source e.target r.class (trailing_zeros w32 shared) p.source p.target p.class p.bit
            (ends.least p.source p.target (record {
              first_source = both.first.has_source;
              second_source = both.second.has_source;
              first_target = both.first.has_target;
              second_target = both.second.has_target;
            }))
            both.first.of_class
            (elim (cases_lt p.bit (trailing_zeros w32 shared)) [
              | inl before ↦ let zero_ = low.2 p.bit before in
                  let one_ = (set_is_one shared p.bit).0 (subst (λ m. IsBitSet m p.bit) (sym are) ((set_in_both r.mask q.mask p.bit).1 (both.first.permits, both.second.permits))) in absurd (omega (arith, zero_, one_))
              | inr behind ↦ behind
            ])
            less;
      }
    where
      greater : (m n : ℕ) → n < m → nat_cmp m n ≡ Greater
      greater m n l = nat_cmp_total.antisymm m n ∙ ap ordering_reverse (less_from n m l)

      above : (o p : Ordering) → o ≡ Greater → ordering_then o p ≡ Less → ⊥
      above o p e l = let f : Greater ≡ Less = sym (ap (λ z. ordering_then z p) e) ∙ l in cc

      past : (o p : Ordering) → o ≡ Equal → ordering_then o p ≡ Less → p ≡ Less
      past o p e l = sym (ap (λ z. ordering_then z p) e) ∙ l

      only : (o : Ordering) → ordering_then o Equal ≡ Less → o ≡ Less
      only Less e = refl
      only Equal e = e
      only Greater e = e

      not_less : (a b c d u v w x : ℕ) → IsUpTo a b u v → c ≡ w → d ≤ x
          → ordering_then (nat_cmp u a) (ordering_then (nat_cmp v b) (ordering_then (nat_cmp w c) (ordering_then (nat_cmp x d) Equal))) ≡ Less → ⊥
      not_less a b c d u v w x up e le less = elim up [
        | inl l ↦ above (nat_cmp u a) _ (greater u a l) less
        | inr h ↦ let rest = past (nat_cmp u a) _ (equal_from u a (sym h.0)) less in
            elim (cases_lt b v) [
              | inl l ↦ above (nat_cmp v b) _ (greater v b l) rest
              | inr ge ↦ let at : v ≡ b = let k = h.1 in omega (arith, k, ge) in
                  let last = past (nat_cmp w c) _ (equal_from w c (sym e)) (past (nat_cmp v b) _ (equal_from v b at) rest) in
                  let below = below_by x d (only (nat_cmp x d) last) in omega (arith, below, le)
            ]
      ]

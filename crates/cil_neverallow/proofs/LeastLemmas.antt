-- The least of some overlaps: of what one more rule adds, and that there is one.
use Rattle.std.specs.Prelude.{Contains, Option, None, Some}
use Rattle.std.specs.Cmp.{IsTotalOrder}
use Rattle.std.specs.Ordering.{ordering_reverse}
use Rattle.std.specs.declared.cmp.Ordering.{Ordering}
use Rattle.std.specs.declared.cmp.Ordering.TheVariants.{Less, Equal, Greater}
use Rattle.std.proofs.Common.{◌≡◌, ◌⊎◌, ℕ, ◌+◌, ◌<◌, ◌≤◌, List, [], ◌∷◌, ◌++◌, length, take, get_or, map, refl, sym, ◌∙◌, ap, subst, inl, inr}
use Rattle.std.proofs.lemmas.Cmp.{on_total, nat_list_cmp_total}
use Rattle.std.proofs.lemmas.List.{map-append, take_all, take_more}
use Rattle.std.proofs.lemmas.List.Elements.{Contains-append_left, Contains-append_right, Contains-append_cases}
use Rattle.std.proofs.lemmas.Map.Lookups.{exact_bytes}
use Rattle.cil_base.specs.Lists.{contains_cases, contains_here, contains_none}
use Rattle.cil_base.specs.Places.{cons_head, cons_tail}
use Rattle.cil_index.specs.rules.Rule.{Rule}
use Rattle.cil_neverallow.specs.declared.overlap.Overlap.{Overlap}
use Rattle.cil_neverallow.specs.Overlaps.{BothHold, Holds, IsLeastFor, IsLeastOf, IsMet, IsOverlap, fields_of, lesser_of, overlap_cmp, pick}

-- ---- the order

pub overlap_total : IsTotalOrder overlap_cmp
overlap_total = on_total fields_of nat_list_cmp_total

same_overlap : (a b : Overlap) → a.source ≡ b.source → a.target ≡ b.target → a.class ≡ b.class → a.bit ≡ b.bit → a ≡ b
same_overlap a b s t c p = λ i. record { source = s i; target = t i; class = c i; bit = p i }

-- two that tie are one
pub one_overlap : (a b : Overlap) → overlap_cmp a b ≡ Equal → a ≡ b
one_overlap a b e =
    let f : fields_of a ≡ fields_of b = exact_bytes (fields_of a) (fields_of b) e in
    let g = cons_tail _ _ _ _ f in
    let h = cons_tail _ _ _ _ g in
    same_overlap a b (cons_head _ _ _ _ f) (cons_head _ _ _ _ g) (cons_head _ _ _ _ h) (cons_head _ _ _ _ (cons_tail _ _ _ _ h))

-- some have one least
pub one_least : (P : Overlap → Type 0) (a b : Overlap) → IsLeastOf P a → IsLeastOf P b → a ≡ b
one_least P a b x y = decided (overlap_cmp a b) refl
  where
    decided : (o : Ordering) → overlap_cmp a b ≡ o → a ≡ b
    decided Less e = absurd (y.least a x.is e)
    decided Equal e = one_overlap a b e
    decided Greater e = absurd (x.least b y.is (overlap_total.antisymm b a ∙ ap ordering_reverse e))

-- ---- the lesser of two

module _ (P Q R : Overlap → Type 0) (there : (o : Overlap) → P o ⊎ Q o → R o) (back : (o : Overlap) → R o → P o ⊎ Q o) where
  both_there : (x y : Overlap) → IsLeastOf P x → IsLeastOf Q y → (o : Ordering) → overlap_cmp y x ≡ o → IsLeastOf R (pick o x y)
  both_there x y p q Less e = record {
    is = there y (inr q.is);
    least = λ r has less. elim (back r has) [
      | inl z ↦ p.least r z (overlap_total.trans r y x less e)
      | inr z ↦ q.least r z less
    ];
  }
  both_there x y p q Equal e = record {
    is = there x (inl p.is);
    least = λ r has less. elim (back r has) [
      | inl z ↦ p.least r z less
      | inr z ↦ q.least r z (subst (λ w. overlap_cmp r w ≡ Less) (sym (one_overlap y x e)) less)
    ];
  }
  both_there x y p q Greater e = record {
    is = there x (inl p.is);
    least = λ r has less. elim (back r has) [
      | inl z ↦ p.least r z less
      | inr z ↦ q.least r z (overlap_total.trans r x y less (overlap_total.antisymm x y ∙ ap ordering_reverse e))
    ];
  }

  -- the lesser of the least of some and the least of others is the least of all
  pub lesser_least : (a b : Option Overlap) → IsLeastFor P a → IsLeastFor Q b → IsLeastFor R (lesser_of a b)
  lesser_least None None p q = λ o has. elim (back o has) [ inl z ↦ p o z | inr z ↦ q o z ]
  lesser_least None (Some y) p q = record {
    is = there y (inr q.is);
    least = λ r has less. elim (back r has) [ inl z ↦ absurd (p r z) | inr z ↦ q.least r z less ];
  }
  lesser_least (Some x) None p q = record {
    is = there x (inl p.is);
    least = λ r has less. elim (back r has) [ inl z ↦ p.least r z less | inr z ↦ absurd (q r z) ];
  }
  lesser_least (Some x) (Some y) p q = both_there x y p q (overlap_cmp y x) refl

-- ---- rules, one after another

module _ {X : Type 0} (f : X → Rule) (xs : List X) (i : ℕ) (x : X) (within : i < length xs) (is : x ≡ get_or xs i x) where
  taken : map f (take (i + 1) xs) ≡ map f (take i xs) ++ f x ∷ []
  taken = ap (map f) (take_more xs i x within ∙ ap (λ z. take i xs ++ z ∷ []) (sym is)) ∙ map-append f (take i xs) (x ∷ [])

  pub one_of : (r : Rule) → Contains (map f (take (i + 1) xs)) r → Contains (map f (take i xs)) r ⊎ (f x ≡ r)
  one_of r c = elim (Contains-append_cases (map f (take i xs)) (f x ∷ []) r (subst (λ zs. Contains zs r) taken c)) [
    | inl d ↦ inl d
    | inr d ↦ elim (contains_cases r (f x) [] d) [ inl e ↦ inr e | inr n ↦ absurd (contains_none r n) ]
  ]

  earlier : (r : Rule) → Contains (map f (take i xs)) r → Contains (map f (take (i + 1) xs)) r
  earlier r c = subst (λ zs. Contains zs r) (sym taken) (Contains-append_left (map f (take i xs)) (f x ∷ []) r c)

  last : Contains (map f (take (i + 1) xs)) (f x)
  last = subst (λ zs. Contains zs (f x)) (sym taken) (Contains-append_right (map f (take i xs)) (f x ∷ []) (f x) (contains_here (f x) []))

  -- one rule more on the side of the others
  pub met_more : (r : Rule) (a b : Option Overlap) → IsLeastFor (IsMet r (map f (take i xs))) a → IsLeastFor (BothHold r (f x)) b → IsLeastFor (IsMet r (map f (take (i + 1) xs))) (lesser_of a b)
  met_more r = lesser_least (IsMet r (map f (take i xs))) (BothHold r (f x)) (IsMet r (map f (take (i + 1) xs))) there back
    where
      there : (o : Overlap) → IsMet r (map f (take i xs)) o ⊎ BothHold r (f x) o → IsMet r (map f (take (i + 1) xs)) o
      there o h = elim h [
        | inl m ↦ record { first = m.first; second = record { rule = m.second.rule; is_rule = earlier m.second.rule m.second.is_rule; holds = m.second.holds } }
        | inr b ↦ record { first = b.first; second = record { rule = f x; is_rule = last; holds = b.second } }
      ]

      back : (o : Overlap) → IsMet r (map f (take (i + 1) xs)) o → IsMet r (map f (take i xs)) o ⊎ BothHold r (f x) o
      back o m = elim (one_of m.second.rule m.second.is_rule) [
        | inl c ↦ inl (record { first = m.first; second = record { rule = m.second.rule; is_rule = c; holds = m.second.holds } })
        | inr e ↦ inr (record { first = m.first; second = subst (λ (q : Rule). Holds q o) (sym e) m.second.holds })
      ]

  -- one rule more on the forbidden side
  pub overlap_more : (others : List Rule) (a b : Option Overlap) → IsLeastFor (IsOverlap (map f (take i xs)) others) a → IsLeastFor (IsMet (f x) others) b
      → IsLeastFor (IsOverlap (map f (take (i + 1) xs)) others) (lesser_of a b)
  overlap_more others = lesser_least (IsOverlap (map f (take i xs)) others) (IsMet (f x) others) (IsOverlap (map f (take (i + 1) xs)) others) there back
    where
      there : (o : Overlap) → IsOverlap (map f (take i xs)) others o ⊎ IsMet (f x) others o → IsOverlap (map f (take (i + 1) xs)) others o
      there o h = elim h [
        | inl m ↦ record { first = record { rule = m.first.rule; is_rule = earlier m.first.rule m.first.is_rule; holds = m.first.holds }; second = m.second }
        | inr m ↦ record { first = record { rule = f x; is_rule = last; holds = m.first }; second = m.second }
      ]

      back : (o : Overlap) → IsOverlap (map f (take (i + 1) xs)) others o → IsOverlap (map f (take i xs)) others o ⊎ IsMet (f x) others o
      back o m = elim (one_of m.first.rule m.first.is_rule) [
        | inl c ↦ inl (record { first = record { rule = m.first.rule; is_rule = c; holds = m.first.holds }; second = m.second })
        | inr e ↦ inr (record { first = subst (λ (q : Rule). Holds q o) (sym e) m.first.holds; second = m.second })
      ]

module _ {X : Type 0} (f : X → Rule) (xs : List X) (i : ℕ) (over : length xs ≤ i) (best : Option Overlap) where
  pub met_all : (r : Rule) → IsLeastFor (IsMet r (map f (take i xs))) best → IsLeastFor (IsMet r (map f xs)) best
  met_all r = subst (λ zs. IsLeastFor (IsMet r (map f zs)) best) (take_all i xs over)

  pub overlap_all : (others : List Rule) → IsLeastFor (IsOverlap (map f (take i xs)) others) best → IsLeastFor (IsOverlap (map f xs) others) best
  overlap_all others = subst (λ zs. IsLeastFor (IsOverlap (map f zs) others) best) (take_all i xs over)

pub none_met : (r : Rule) (o : Overlap) → IsMet r [] o → ⊥
none_met r o m = contains_none m.second.rule m.second.is_rule

pub no_overlap : (others : List Rule) (o : Overlap) → IsOverlap [] others o → ⊥
no_overlap others o m = contains_none m.first.rule m.first.is_rule

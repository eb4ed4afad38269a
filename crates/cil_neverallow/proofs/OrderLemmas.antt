-- Quadruples are in the order of their numbers.
use Rattle.std.specs.Prelude.{Some, slice_get}
use Rattle.std.specs.Cmp.Lexicographic.{slice_cmp}
use Rattle.std.specs.List.Sorted.{IsStrictlySortedBy}
use Rattle.std.specs.Ordering.{nat_cmp, ordering_reverse, ordering_then}
use Rattle.std.specs.declared.cmp.Ordering.{Ordering}
use Rattle.std.specs.declared.cmp.Ordering.TheVariants.{Less, Equal, Greater}
use Rattle.std.proofs.Common.{◌≡◌, ◌⊎◌, ℕ, List, [], get_or, refl, sym, ◌∙◌, ap, inl, inr, arith}
use Rattle.std.proofs.lemmas.Bool.{cases_lt}
use Rattle.std.proofs.lemmas.Cmp.{nat_cmp_total, nat_list_cmp_total}
use Rattle.std.proofs.lemmas.Map.Keys.{Less-from_sorted}
use Rattle.cil_base.specs.Lists.{text_cmp}
use Rattle.cil_base.specs.Paths.{equal_from, its_own, less_from, same_by}
use Rattle.cil_base.specs.Places.{get_so, in_range}
use Rattle.cil_neverallow.specs.declared.overlap.Overlap.{Overlap}
use Rattle.cil_neverallow.specs.NeverFaults.{Quadruple, names_of}
use Rattle.cil_neverallow.specs.Overlaps.{overlap_cmp}
use Rattle.cil_index.specs.names.Declarations.{name_of}

-- names at two places of a rising list compare as the places
pub names_cmp : (xs : List (List ℕ)) (i j : ℕ) (a b : List ℕ) → IsStrictlySortedBy text_cmp xs → slice_get xs i ≡ Some a → slice_get xs j ≡ Some b → text_cmp a b ≡ nat_cmp i j
names_cmp xs i j a b rising at bt =
    let li = in_range xs i a at in
    let lj = in_range xs j b bt in
    let va : get_or xs i [] ≡ a = get_so xs i a [] at in
    let vb : get_or xs j [] ≡ b = get_so xs j b [] bt in
    elim (cases_lt i j) [
      | inl less ↦ (λ k. text_cmp (sym va k) (sym vb k)) ∙ Less-from_sorted text_cmp xs i j [] rising less lj ∙ sym (less_from i j less)
      | inr ge ↦ elim (cases_lt j i) [
        | inl more ↦ nat_list_cmp_total.antisymm a b
            ∙ ap ordering_reverse ((λ k. text_cmp (sym vb k) (sym va k)) ∙ Less-from_sorted text_cmp xs j i [] rising more li ∙ sym (less_from j i more)) ∙ sym (nat_cmp_total.antisymm i j)
        | inr le ↦ let same : i ≡ j = omega (arith, ge, le) in
            let one : a ≡ b = sym va ∙ ap (λ k. get_or xs k []) same ∙ vb in
            ap (λ z. text_cmp z b) one ∙ its_own (text_cmp b b) (nat_list_cmp_total.antisymm b b) ∙ sym (equal_from i j same)
      ]
    ]

-- two numbers are one, or they differ
pub same_or_not : (k o : ℕ) → (k ≡ o → ⊥) ⊎ (k ≡ o)
same_or_not k o = elim (cases_lt k o) [
  | inl less ↦ inl (λ e. omega (arith, less, e))
  | inr ge ↦ elim (cases_lt o k) [ inl more ↦ inl (λ e. omega (arith, more, e)) | inr le ↦ inr (omega (arith, ge, le)) ]
]

-- where the third differs, the fourth does not matter
decided : (u v w p n : Ordering) → (w ≡ Equal → ⊥) → ordering_then u (ordering_then v (ordering_then w (ordering_then p Equal))) ≡ ordering_then u (ordering_then v (ordering_then w (ordering_then n Equal)))
decided Less v w p n f = refl
decided Equal Less w p n f = refl
decided Equal Equal Less p n f = refl
decided Equal Equal Equal p n f = absurd (f refl)
decided Equal Equal Greater p n f = refl
decided Equal Greater w p n f = refl
decided Greater v w p n f = refl

-- quadruples compare as their numbers, if sources, targets and classes do, and permissions of one class
pub quadruples_cmp : (q r : Quadruple) (o p : Overlap) → text_cmp (name_of q.source) (name_of r.source) ≡ nat_cmp o.source p.source → text_cmp (name_of q.target) (name_of r.target) ≡ nat_cmp o.target p.target
    → text_cmp (name_of q.class_) (name_of r.class_) ≡ nat_cmp o.class p.class → (o.class ≡ p.class → text_cmp q.permission r.permission ≡ nat_cmp o.bit p.bit)
    → slice_cmp text_cmp (names_of q) (names_of r) ≡ overlap_cmp o p
quadruples_cmp q r o p s t c b =
    (λ i. ordering_then (s i) (ordering_then (t i) (ordering_then (c i) (ordering_then (text_cmp q.permission r.permission) Equal))))
    ∙ elim (same_or_not o.class p.class) [
      | inl differ ↦ decided (nat_cmp o.source p.source) (nat_cmp o.target p.target) (nat_cmp o.class p.class) (text_cmp q.permission r.permission) (nat_cmp o.bit p.bit) (λ e. differ (same_by o.class p.class e))
      | inr e ↦ (let f = b e in λ i. ordering_then (nat_cmp o.source p.source) (ordering_then (nat_cmp o.target p.target) (ordering_then (nat_cmp o.class p.class) (ordering_then (f i) Equal))))
    ]

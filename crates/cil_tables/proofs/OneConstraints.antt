-- The constraints of a policy are one list.
use Rattle.std.specs.Prelude.{◌↔◌, Contains, IsBitSet, slice_get}
use Rattle.std.specs.Int.{bit_at}
use Rattle.std.specs.Ordering.{nat_cmp}
use Rattle.std.specs.List.Sorted.{IsStrictlySortedBy}
use Rattle.std.proofs.Common.{◌≡◌, ℕ, zero, suc, ◌<◌, List, refl, sym, ◌∙◌, ap, subst, arith}
use Rattle.std.proofs.lemmas.Nat.Bits.{bit_at-lt, same_from_bits}
use Rattle.std.proofs.lemmas.Cmp.{nat_cmp_total}
use Rattle.std.proofs.lemmas.Option.{same_Some}
use Rattle.cil_base.specs.Lists.{one_list, same_members}
use Rattle.cil_syntax.specs.declared.kind.Kind.{Kind}
use Rattle.cil_syntax.specs.Scopes.{ScopedWord}
use Rattle.cil_macros.specs.Item.{Item, OptSet}
use Rattle.cil_classes.specs.declared.row.Class.{Class}
use Rattle.cil_classes.specs.Row.{class_cmp}
use Rattle.cil_classes.proofs.BitLemmas.{set_is_one}
use Rattle.cil_constraints.specs.declared.mask.Constraint.{Constraint}
use Rattle.cil_constraints.specs.Compiled.{ConstraintCase, HasBit, IsConstraintOf}
use Rattle.cil_constraints.specs.Expressions.{Expression, Negated, Both, Either, Compared, Ranked, Inside, steps_of}
use Rattle.cil_constraints.specs.Numbered.{HasNumberAmong, IsExpressionOf}
use Rattle.cil_constraints.specs.Order.{constraint_cmp, constraint_total}
use Rattle.cil_tables.specs.Compiled.{AreConstraints}
use Rattle.cil_tables.proofs.SymbolLemmas.{one_class_number}

below_two : (m n : ℕ) → m < 2 → n < 2 → (m ≡ 1 → n ≡ 1) → (n ≡ 1 → m ≡ 1) → m ≡ n
below_two zero zero l k there back = refl
below_two zero (suc zero) l k there back = back refl
below_two (suc zero) zero l k there back = sym (there refl)
below_two (suc zero) (suc zero) l k there back = refl
below_two (suc (suc m)) n l k there back = absurd (omega (arith, l))
below_two m (suc (suc n)) l k there back = absurd (omega (arith, k))

-- masks with the same bits are one
pub same_masks : (a b : ℕ) → ((bit : ℕ) → IsBitSet a bit ↔ IsBitSet b bit) → a ≡ b
same_masks a b same =
    same_from_bits a b
    (λ i. below_two (bit_at a i) (bit_at b i) (bit_at-lt a i) (bit_at-lt b i) (λ e. (set_is_one b i).0 ((same i).0 ((set_is_one a i).1 e)))
    (λ e. (set_is_one a i).0 ((same i).1 ((set_is_one b i).1 e))))

same_constraint : (a b : Constraint) → a.class ≡ b.class → a.mask ≡ b.mask → a.expr ≡ b.expr → a ≡ b
same_constraint a b c m e = λ i. record { class = c i; mask = m i; expr = e i }

module _ (xs : List Item) (s : OptSet) (names : Kind → List (List ℕ)) where
  one_expression : (d : Expression (List ScopedWord)) (e f : Expression (List ℕ)) → IsExpressionOf xs s names d e → IsExpressionOf xs s names d f → e ≡ f
  one_expression (Negated d) e f (g, is, of) (h, js, og) = is ∙ ap Negated (one_expression d g h of og) ∙ sym js
  one_expression (Both c d) e f (g, h, is, of, og) (k, l, js, ok, ol) = is ∙ (λ i. Both (one_expression c g k of ok i) (one_expression d h l og ol i)) ∙ sym js
  one_expression (Either c d) e f (g, h, is, of, og) (k, l, js, ok, ol) = is ∙ (λ i. Either (one_expression c g k of ok i) (one_expression d h l og ol i)) ∙ sym js
  one_expression (Compared part equality) e f is js = is ∙ sym js
  one_expression (Ranked pair relation) e f is js = is ∙ sym js
  one_expression (Inside part side equality words) e f (m, is, a) (n, js, b) =
      is ∙ ap (Inside part side equality) (one_list nat_cmp nat_cmp_total (HasNumberAmong xs s names part words) m n a b) ∙ sym js

  module _ (classes : List Class) (rising : IsStrictlySortedBy class_cmp classes) where
    one_record : (k : ConstraintCase) (a b : Constraint) → IsConstraintOf xs s names classes k a → IsConstraintOf xs s names classes k b → a ≡ b
    one_record k a b p q =
        let number = one_class_number classes a.class b.class p.row q.row rising p.is_row q.is_row (p.named ∙ sym q.named) in
        let row : p.row ≡ q.row = same_Some _ _ (sym p.is_row ∙ ap (slice_get classes) number ∙ q.is_row) in
        same_constraint a b number
        (same_masks a.mask b.mask (λ bit. (
          (λ h. (q.mask bit).1 (subst (λ r. HasBit xs s k.class_permission k.class_ r bit) row ((p.mask bit).0 h))),
          (λ h. (p.mask bit).1 (subst (λ r. HasBit xs s k.class_permission k.class_ r bit) (sym row) ((q.mask bit).0 h))),
        )))
        (p.steps ∙ ap steps_of (one_expression k.expression p.expression q.expression p.is_expression q.is_expression) ∙ sym q.steps)

    within : (cs ds : List Constraint) → AreConstraints xs s names classes cs → AreConstraints xs s names classes ds → (c : Constraint) → Contains cs c → Contains ds c
    within cs ds a b c is_there =
        let (k, asked, of) = a.only c is_there in
        let (d, gives, there) = b.each k asked in
        subst (Contains ds) (one_record k d c gives of) there

    pub one_constraints : (cs ds : List Constraint) → AreConstraints xs s names classes cs → AreConstraints xs s names classes ds → cs ≡ ds
    one_constraints cs ds a b = same_members constraint_cmp constraint_total cs ds a.rising b.rising (within cs ds a b) (within ds cs b a)

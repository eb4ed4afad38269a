-- Changes of role by the row of a class.
use Rattle.std.specs.Prelude.{◌↔◌, IsBitSet, bit_or, Some, slice_get}
use Rattle.std.specs.Int.{bit_at}
use Rattle.std.proofs.Common.{◌≡◌, ℕ, ◌*◌, ◌%◌, ◌^◌, ◌<◌, ◌≤◌, List, length, codes, refl, sym, ◌∙◌, ap, subst, inl, inr, arith}
use Rattle.std.proofs.lemmas.Nat.{pow_below}
use Rattle.std.proofs.lemmas.Nat.Bits.{bit_at-pow_same, bit_at-pow_other}
use Rattle.std.proofs.lemmas.Option.{same_Some, slice_get_within}
use Rattle.cil_base.specs.Decided.{same_number}
use Rattle.cil_base.specs.NameNumbers.{IsNumberOf}
use Rattle.cil_tables.proofs.classes_lemmas.BitLemmas.{set_in_either, set_is_one}
use Rattle.cil_tables.specs.classes.Class.{Class}
use Rattle.cil_tables.specs.constraints_crate.Context.{Context}
use Rattle.cil_tables.specs.Meaning.{Bars}
use Rattle.cil_tables.specs.Table.{Table}
use Rattle.cil_decide.specs.Changes.{BarsRow, IsMaskOf, IsTransitionBit}

module _ (permissions : List (List ℕ)) where
  single_bit : (name : List ℕ) (n : ℕ) → IsNumberOf permissions name n → IsMaskOf permissions name (2 ^ n)
  single_bit name n is bit = (
    λ s. elim (same_number bit n) [
      | inl e ↦ subst (λ k. slice_get permissions k ≡ Some name) (sym e) is.at
      | inr apart ↦ let one = (set_is_one (2 ^ n) bit).0 s in let zero = bit_at-pow_other n bit apart in absurd (omega (arith, one, zero))
    ],
    λ f. (set_is_one (2 ^ n) bit).1 (ap (bit_at (2 ^ n)) (is.only bit f) ∙ bit_at-pow_same n),
  )

  -- the mask of one permission of at most 32
  pub one_bit : (name : List ℕ) (n : ℕ) → length permissions ≤ 32 → IsNumberOf permissions name n → IsMaskOf permissions name (1 * 2 ^ n % 4294967296)
  one_bit name n few is =
      let within = slice_get_within permissions n name is.at in
      let small : 2 ^ n < 4294967296 = pow_below n 32 (omega (arith, within, few)) in
      let same : 1 * 2 ^ n % 4294967296 ≡ 2 ^ n = omega (arith, small) in
      subst (IsMaskOf permissions name) (sym same) (single_bit name n is)

  -- the two permissions together
  pub both_transitions : (a b : ℕ) → IsMaskOf permissions (codes "transition") a → IsMaskOf permissions (codes "dyntransition") b
      → (bit : ℕ) → IsBitSet (bit_or a b) bit ↔ IsTransitionBit permissions bit
  both_transitions a b one other bit = (
    λ s. elim ((set_in_either a b bit).0 s) [
      | inl t ↦ record { permission = codes "transition"; is_permission = (one bit).0 t; transition = inl refl }
      | inr t ↦ record { permission = codes "dyntransition"; is_permission = (other bit).0 t; transition = inr refl }
    ],
    λ w. (set_in_either a b bit).1 (elim w.transition [
      | inl e ↦ inl ((one bit).1 (w.is_permission ∙ ap Some e))
      | inr e ↦ inr ((other bit).1 (w.is_permission ∙ ap Some e))
    ]),
  )

-- what is barred by the row is barred by the table
pub bars_row : (t : Table) (n m : Context) (class_ : ℕ) (row : Class) → slice_get t.classes class_ ≡ Some row → (bit : ℕ)
    → BarsRow t.role_allows row n.role m.role bit ↔ Bars t n m class_ bit
bars_row t n m class_ row is_row bit = (
  λ b. record {
    row = row;
    is_row = is_row;
    of_process = b.of_process;
    permission = b.transition.permission;
    is_permission = b.transition.is_permission;
    transition = b.transition.transition;
    changes = b.not_let.changes;
    not_let = b.not_let.not_let;
  },
  λ c. let same : row ≡ c.row = same_Some _ _ (sym is_row ∙ c.is_row) in
      record {
        of_process = ap (λ (r : Class). r.name) same ∙ c.of_process;
        transition = record {
          permission = c.permission;
          is_permission = ap (λ (r : Class). slice_get r.permissions bit) same ∙ c.is_permission;
          transition = c.transition;
        };
        not_let = record { changes = c.changes; not_let = c.not_let };
      },
)

use Rattle.std.specs.Prelude.{◌≡◌, ◌⊎◌, true, Contains}
use Rattle.std.proofs.Common.{inl, inr}
use Rattle.cil_faults.specs.FaultOrder.{fault_cmp}
use Rattle.cil_base.specs.Sorted.{lists_of}
use Rattle.cil_faults.proofs.laws.joins_both.Goals as goal

pub returns : goal.returns
returns c =
    λ p q xs ys both a b j. lists_of fault_cmp (λ f. Contains xs f ⊎ Contains ys f) (λ f. (p f ≡ true) ⊎ (q f ≡ true)) both
    (λ f h. elim h [ inl x ↦ inl ((a.members f).0 x) | inr y ↦ inr ((b.members f).0 y) ])
    (λ f h. elim h [ inl x ↦ inl ((a.members f).1 x) | inr y ↦ inr ((b.members f).1 y) ]) j

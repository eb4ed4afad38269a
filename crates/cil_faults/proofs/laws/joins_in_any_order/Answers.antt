use Rattle.std.specs.Prelude.{◌⊎◌, Contains}
use Rattle.std.proofs.Common.{inl, inr}
use Rattle.cil_base.specs.Lists.{one_list}
use Rattle.cil_faults.specs.FaultOrder.{fault_cmp, fault_total}
use Rattle.cil_base.specs.Sorted.{lists_of}
use Rattle.cil_faults.proofs.laws.joins_in_any_order.Goals as goal

pub returns : goal.returns
returns c =
    λ xs ys here there a b. one_list fault_cmp fault_total (λ f. Contains xs f ⊎ Contains ys f) here there a
    (lists_of fault_cmp (λ f. Contains ys f ⊎ Contains xs f) (λ f. Contains xs f ⊎ Contains ys f) there
    (λ f h. elim h [ inl x ↦ inr x | inr y ↦ inl y ])
    (λ f h. elim h [ inl x ↦ inr x | inr y ↦ inl y ]) b)

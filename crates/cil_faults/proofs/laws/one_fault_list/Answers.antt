use Rattle.std.specs.Prelude.{◌≡◌, true}
use Rattle.cil_base.specs.Lists.{one_list}
use Rattle.cil_faults.specs.FaultOrder.{fault_cmp, fault_total}
use Rattle.cil_faults.proofs.laws.one_fault_list.Goals as goal

pub returns : goal.returns
returns c = λ set xs ys a b. one_list fault_cmp fault_total (λ f. set f ≡ true) xs ys a b

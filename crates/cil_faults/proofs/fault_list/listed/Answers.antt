use Rattle.cil_faults.proofs.SortedFaults.{faults_sorted, own_faults}
use Rattle.cil_faults.proofs.fault_list.listed.Goals as goal

pub invariant_of-result : goal.invariant_of-result
invariant_of-result c =
    own_faults _ _ (faults_sorted _ _ _ c.requires c.sort_unstable.ensures.permutation c.sort_unstable.ensures.sorted c.dedup.ensures.filtered)

pub returns : goal.returns
returns c =
    faults_sorted _ _ _ c.requires c.sort_unstable.ensures.permutation c.sort_unstable.ensures.sorted c.dedup.ensures.filtered

use Rattle.cil_faults.proofs.SortedFaults.{faults_joined, some_joined}
use Rattle.cil_faults.proofs.fault_list.FaultList.join.Goals as goal

pub listed-requires : goal.listed-requires
listed-requires c = some_joined _ _ _ c.self.invariant c.in_ok-append.ensures.items

pub returns : goal.returns
returns c =
    rw (← c.self.view_is, ← c.other.view_is) (faults_joined _ _ _ (rw (← c.in_ok-append.ensures.items) c.listed.ensures))

use Rattle.std.proofs.Common.{◌≡◌, ◌++◌, drop}
use Rattle.cil_macros.specs.CallFaults.{faults_from}
use Rattle.cil_macros.specs.Macros.{all_standing}
use Rattle.cil_macros.specs.Walks.{placed_in, written_in}
use Rattle.cil_macros.proofs.faults.call_faults.Given as goal

abbrev pub invariant-loop-at : goal.invariant-loop-at
invariant-loop-at l =
    l.faults.items ++ faults_from (written_in l.source.spaces.now) (all_standing l.source.spaces.now) l.marks l.lists l.at (drop l.at (placed_in l.source.spaces.now l.brought.entries.items))
    ≡ faults_from (written_in l.source.spaces.now) (all_standing l.source.spaces.now) l.marks l.lists 0 (placed_in l.source.spaces.now l.brought.entries.items)

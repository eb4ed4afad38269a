use Rattle.std.specs.Prelude.{take}
use Rattle.cil_macros.specs.Items.{items_in}
use Rattle.cil_ranges.proofs.UserFaultLemmas.{AddsTold}
use Rattle.cil_ranges.proofs.user_faults.push_twice.Given as goal

abbrev pub invariant-loop-at : goal.invariant-loop-at
invariant-loop-at l = AddsTold l.known l.by l.differing (items_in l.instances) (take l.at (items_in l.instances)) l.fn.faults.items l.faults.items

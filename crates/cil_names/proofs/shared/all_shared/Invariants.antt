use Rattle.std.specs.Prelude.{take}
use Rattle.cil_base.specs.Records.{AreRecordsOf}
use Rattle.cil_macros.specs.Items.{items_in, namespaces_in}
use Rattle.cil_names.specs.Shared.{IsPairOf, Shares}
use Rattle.cil_names.proofs.shared.all_shared.Given as goal

abbrev pub invariant-loop-at : goal.invariant-loop-at
invariant-loop-at l =
    AreRecordsOf (Shares (items_in l.instances)) (IsPairOf (namespaces_in l.instances) l.names) (take l.at (items_in l.instances)) l.shared.items

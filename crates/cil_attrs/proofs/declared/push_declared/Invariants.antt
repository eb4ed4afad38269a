use Rattle.std.specs.Prelude.{take}
use Rattle.cil_known.specs.macros.Items.{items_in}
use Rattle.cil_known.specs.names.Entries.{is_in}
use Rattle.cil_attrs.specs.Targets.{IsToldAt}
use Rattle.cil_attrs.proofs.ToldLemmas.{AreTold}
use Rattle.cil_attrs.proofs.declared.push_declared.Given as goal

abbrev pub invariant-loop-at : goal.invariant-loop-at
invariant-loop-at l =
    AreTold (items_in l.instances) l.fn.faults.items (IsToldAt l.lookup.namespaces.now l.lookup.names.now (items_in l.instances) (is_in l.lookup.enabled.now) l.told.kind l.code l.told.flags.now)
    (take l.at (items_in l.instances)) l.faults.items

use Rattle.std.specs.Prelude.{ℕ, List, take}
use Rattle.cil_base.specs.Records.{AreRecordsOf}
use Rattle.cil_syntax.specs.declared.kind.Kind.{Kind}
use Rattle.cil_macros.specs.Items.{items_in}
use Rattle.cil_known.specs.Known.{IsKnown, enabled_in}
use Rattle.cil_classes.specs.Givings.{GivesTo, IsNodeFor}
use Rattle.cil_classes.proofs.givens.unsorted.Given as goal

abbrev pub invariant-loop-at : goal.invariant-loop-at
invariant-loop-at l =
    (names : Kind → List (List ℕ)) → IsKnown l.known (items_in l.instances) names
    → AreRecordsOf (GivesTo (items_in l.instances) (enabled_in l.known)) (IsNodeFor l.known) (take l.at (items_in l.instances)) l.nodes.items

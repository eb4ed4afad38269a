use Rattle.std.specs.Prelude.{ℕ, List, take}
use Rattle.cil_base.specs.Records.{AreRecordsOf}
use Rattle.cil_syntax.specs.declared.kind.Kind.{Kind}
use Rattle.cil_syntax.specs.declared.kind.Kind.TheVariants as kinds
use Rattle.cil_macros.specs.Items.{items_in}
use Rattle.cil_known.specs.Known.{IsKnown, enabled_in}
use Rattle.cil_known.specs.Numbers.{AreApart}
use Rattle.cil_classes.specs.ClassRows.{AreClasses}
use Rattle.cil_classes.specs.Givings.{GivesTo, HaveNodes, IsGivenFor}
use Rattle.cil_classes.specs.Parts.{AreNodes}
use Rattle.cil_classes.proofs.givens.givens_of.Given as goal

abbrev pub invariant-loop-at : goal.invariant-loop-at
invariant-loop-at l =
    (names : Kind → List (List ℕ)) → IsKnown l.known (items_in l.instances) names → AreApart l.known.lookup.names.now (enabled_in l.known) l.known.numbers.now
    → AreClasses (items_in l.instances) (enabled_in l.known) (names kinds.Class) l.classes → AreNodes l.known l.nodes → HaveNodes l.known (items_in l.instances) l.nodes
    → AreRecordsOf (GivesTo (items_in l.instances) (enabled_in l.known)) (IsGivenFor l.known (items_in l.instances) l.classes l.nodes) (take l.at (items_in l.instances)) l.givens.items

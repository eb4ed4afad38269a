use Rattle.std.specs.Prelude.{◌<◌, ◌≤◌, ℕ, List, Contains, length}
use Rattle.cil_syntax.specs.declared.kind.Kind.{Kind}
use Rattle.cil_syntax.specs.declared.kind.Kind.TheVariants as kinds
use Rattle.cil_macros.specs.Items.{item_at, items_in}
use Rattle.cil_index.specs.known.Known.{AreStanding, IsKnown, enabled_in}
use Rattle.cil_index.specs.known.Numbers.{AreApart}
use Rattle.cil_index.specs.classes.ClassRows.{AreClasses}
use Rattle.cil_index.specs.classes.Held.{IsAssigned}
use Rattle.cil_index.specs.rules.Records.{ignored, CaseBy, IsRuleOf}
use Rattle.cil_neverallow.specs.Stated.{AreKept, Stated}
use Rattle.cil_neverallow.proofs.statements.statements_of.Given as goal

abbrev pub invariant-loop-at : goal.invariant-loop-at
invariant-loop-at l = record {
  up : l.at ≤ length (items_in l.instances);
  within : (st : Stated) → Contains l.kept st → st.place < length (items_in l.instances);
  are : (names : Kind → List (List ℕ)) → IsKnown l.known (items_in l.instances) names → AreApart l.known.lookup.names.now (enabled_in l.known) l.known.numbers.now
      → AreStanding l.known (items_in l.instances) names kinds.Type_ l.types → AreClasses (items_in l.instances) (enabled_in l.known) (names kinds.Class) l.classes
      → IsAssigned l.known (items_in l.instances) l.classes l.given
      → AreKept l.masks (CaseBy (items_in l.instances) (enabled_in l.known) l.keyword ignored) (IsRuleOf (items_in l.instances) (enabled_in l.known) (names kinds.Type_) l.classes ignored)
      l.types (item_at l.instances) l.at l.kept;
}

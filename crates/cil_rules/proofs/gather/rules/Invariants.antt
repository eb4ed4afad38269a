use Rattle.std.specs.Prelude.{ℕ, List}
use Rattle.cil_syntax.specs.declared.kind.Kind.{Kind}
use Rattle.cil_syntax.specs.declared.kind.Kind.TheVariants as kinds
use Rattle.cil_macros.specs.Items.{item_at, items_in}
use Rattle.cil_rules.specs.Kept.{rule_named}
use Rattle.cil_conditions.specs.Numbered.{AreBranchesOf}
use Rattle.cil_rules.specs.Listed.{AreRulesOf}
use Rattle.cil_rules.specs.Records.{IsRuleOf, CaseBy, spelled}
use Rattle.cil_classes.specs.ClassRows.{AreClasses}
use Rattle.cil_classes.specs.Held.{IsAssigned}
use Rattle.cil_conditions.specs.known.Numbers.{AreApart}
use Rattle.cil_conditions.specs.known.Known.{AreStanding, IsKnown, enabled_in}
use Rattle.cil_rules.proofs.gather.rules.Given as goal

abbrev pub invariant-loop-at : goal.invariant-loop-at
invariant-loop-at l = (names : Kind → List (List ℕ)) → IsKnown l.known (items_in l.instances) names → AreApart l.known.lookup.names.now (enabled_in l.known) l.known.numbers.now
    → AreStanding l.known (items_in l.instances) names kinds.Type_ l.types → AreClasses (items_in l.instances) (enabled_in l.known) (names kinds.Class) l.classes → IsAssigned l.known (items_in l.instances) l.classes l.given
    → AreBranchesOf l.instances (enabled_in l.known) (names kinds.Boolean) l.branches
    → AreRulesOf (CaseBy (items_in l.instances) (enabled_in l.known) l.keyword (spelled (names kinds.Boolean))) (IsRuleOf (items_in l.instances) (enabled_in l.known) (names kinds.Type_) l.classes (spelled (names kinds.Boolean)))
    (rule_named l.branches.rows l.types) (item_at l.instances) l.at l.rules.items

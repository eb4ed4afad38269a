-- What holds of numbers, whatever names their symbols have.
use Rattle.std.specs.Prelude.{ℕ, List}
use Rattle.cil_syntax.specs.declared.kind.Kind.{Kind}
use Rattle.cil_syntax.specs.declared.kind.Kind.TheVariants as kinds
use Rattle.cil_macros.specs.Item.{Item}
use Rattle.cil_classes.specs.known.DeclaredKnown.{Known}
use Rattle.cil_classes.specs.known.Known.{IsKnown, enabled_in}
use Rattle.cil_classes.specs.known.Numbers.{AreApart}
use Rattle.cil_classes.specs.declared.row.Class.{Class}
use Rattle.cil_classes.specs.declared.held.GivenPermissions.{GivenPermissions}
use Rattle.cil_classes.specs.ClassRows.{AreClasses}
use Rattle.cil_classes.specs.Held.{IsAssigned}
use Rattle.cil_constraints.specs.declared.push.Standing.{Standing}
use Rattle.cil_constraints.specs.Pushed.{AreSets}

-- it holds where words mean what is known of a policy, words of users, roles and types stand for these, and these are its classes and what
-- its class permissions give: of the names of its symbols by kind
abbrev pub ForNames : Known → List Item → Standing → List Class → GivenPermissions → ((Kind → List (List ℕ)) → Type 0) → Type 0
ForNames k xs sets classes given P =
    (names : Kind → List (List ℕ)) → IsKnown k xs names → AreApart k.lookup.names.now (enabled_in k) k.numbers.now → AreSets k xs names sets → AreClasses xs (enabled_in k) (names kinds.Class) classes
    → IsAssigned k xs classes given → P names

-- What holds of numbers, whatever names their symbols have.
use Rattle.std.specs.Prelude.{ℕ, List}
use Rattle.cil_syntax.specs.declared.kind.Kind.{Kind}
use Rattle.cil_syntax.specs.declared.kind.Kind.TheVariants as kinds
use Rattle.cil_macros.specs.Item.{Item}
use Rattle.cil_conditions.specs.known.DeclaredKnown.{Known}
use Rattle.cil_conditions.specs.known.Known.{AreStanding, IsKnown, enabled_in}
use Rattle.cil_conditions.specs.known.Numbers.{AreApart}
use Rattle.cil_classes.specs.declared.row.Class.{Class}
use Rattle.cil_classes.specs.declared.held.GivenPermissions.{GivenPermissions}
use Rattle.cil_classes.specs.ClassRows.{AreClasses}
use Rattle.cil_classes.specs.Held.{IsAssigned}

-- it holds where words mean what is known of a policy, words of types stand for these types, and these are its classes and what its class
-- permissions give: of the names of its symbols by kind
abbrev pub ForNames : Known → List Item → List (List ℕ) → List Class → GivenPermissions → ((Kind → List (List ℕ)) → Type 0) → Type 0
ForNames k xs types classes given P =
    (names : Kind → List (List ℕ)) → IsKnown k xs names → AreApart k.lookup.names.now (enabled_in k) k.numbers.now → AreStanding k xs names kinds.Type_ types
    → AreClasses xs (enabled_in k) (names kinds.Class) classes → IsAssigned k xs classes given → P names

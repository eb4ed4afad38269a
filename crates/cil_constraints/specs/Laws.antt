-- What is true of every constraint and every expression.
use Rattle.std.specs.Prelude.{◌≡◌, ◌↔◌, ℕ, true, List}
use Rattle.std.specs.Cmp.{IsTotalOrder}
use Rattle.std.specs.declared.cmp.Ordering.TheVariants.{Equal}
use Rattle.cil_syntax.specs.declared.kind.Kind.{Kind}
use Rattle.cil_syntax.specs.Scopes.{ScopedWord}
use Rattle.cil_macros.specs.Item.{Item}
use Rattle.cil_classes.specs.known.DeclaredKnown.{Known}
use Rattle.cil_classes.specs.known.Known.{IsKnown, enabled_in}
use Rattle.cil_classes.specs.known.Numbers.{AreApart}
use Rattle.cil_constraints.specs.declared.expr.Context.{Context as Numbers}
use Rattle.cil_constraints.specs.declared.mask.Constraint.{Constraint}
use Rattle.cil_constraints.specs.Contexts.{Context, IsTrueOf}
use Rattle.cil_constraints.specs.Expressions.{Expression, steps_of}
use Rattle.cil_constraints.specs.Numbered.{IsContextOf, IsExpressionOf}
use Rattle.cil_constraints.specs.Order.{constraint_cmp}
use Rattle.cil_constraints.specs.Truth.{truth}

-- constraints that tie in their order are equal
abbrev pub TiesAreEqual : Type 0
TiesAreEqual = (a b : Constraint) → constraint_cmp a b ≡ Equal → a ≡ b

-- any two constraints have an order
abbrev pub AreOrdered : Type 0
AreOrdered = IsTotalOrder constraint_cmp

-- expressions with the same steps are equal
abbrev pub StepsTellApart : Type 0
StepsTellApart = (e f : Expression (List ℕ)) → steps_of e ≡ steps_of f → e ≡ f

-- an expression is true of two contexts of a policy where it is true of their numbers
abbrev pub TruthIsByNumbers : Type 0
TruthIsByNumbers =
    (k : Known) (xs : List Item) (names : Kind → List (List ℕ)) → IsKnown k xs names → AreApart k.lookup.names.now (enabled_in k) k.numbers.now → (a b : Context) (n m : Numbers)
    → IsContextOf xs (enabled_in k) names a n → IsContextOf xs (enabled_in k) names b m → (d : Expression (List ScopedWord)) (e : Expression (List ℕ))
    → IsExpressionOf xs (enabled_in k) names d e → IsTrueOf xs (enabled_in k) a b d ↔ (truth n m e ≡ true)

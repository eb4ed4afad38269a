-- The records of constraints, by the statement that says each. This project's profile.
use Rattle.std.specs.Prelude.{◌≡◌, ◌++◌, ◌∷◌, [], ℕ, Bool, true, false, List, Option, Some}
use Rattle.cil_base.specs.Records.{AreRecordsOf}
use Rattle.cil_syntax.specs.declared.term.Term as rust
use Rattle.cil_syntax.specs.Depths.{Nests}
use Rattle.cil_syntax.specs.Said.{said_of}
use Rattle.cil_syntax.specs.Scopes.{ScopedWord}
use Rattle.cil_syntax.specs.Terms.{Term, nil, cons}
use Rattle.cil_macros.specs.Item.{Item, OptSet, is_enabled}
use Rattle.cil_classes.specs.names.Unresolved.{term_with}
use Rattle.cil_classes.specs.known.DeclaredKnown.{Known}
use Rattle.cil_classes.specs.known.Known.{BeginWith, enabled_in, row_in}
use Rattle.cil_classes.specs.declared.held.GivenPermissions.{GivenPermissions}
use Rattle.cil_classes.specs.declared.row.Class.{Class}
use Rattle.cil_classes.specs.declared.row.ClassId.{ClassId}
use Rattle.cil_classes.specs.Given.{HasPair}
use Rattle.cil_constraints.specs.declared.mask.Constraint.{Constraint}
use Rattle.cil_constraints.specs.declared.push.Standing.{Standing}
use Rattle.cil_constraints.specs.declared.step.Step.{Step}
use Rattle.cil_constraints.specs.Compiled.{ConstraintCase, IsConstraintOf}
use Rattle.cil_constraints.specs.Constrained.{IsConstraining}
use Rattle.cil_constraints.specs.Expressions.{IsExpression}
use Rattle.cil_constraints.specs.ForNames.{ForNames}
use Rattle.cil_constraints.specs.Pushed.{IsPut, IsUnsaid}
use Rattle.cil_constraints.specs.Saying.{said}

-- the statement is an enabled constraint, and the case is one of it
pub record CaseBy (xs : List Item) (s : OptSet) (x : Item) (k : ConstraintCase) : Type 0 where
  pub enabled : is_enabled s x ≡ true
  pub constraining : IsConstraining xs s x.keyword
  pub term : Term ScopedWord
  pub says : x.args ≡ cons k.class_permission (cons term nil)
  pub said : said term ≡ Some k.expression
  pub permission : (p : List ℕ) × HasPair xs s k.class_permission k.class_ p

-- the records of a statement were put behind others
pub record AreBehind {X K Y : Type 0} (asked : X → K → Type 0) (gives : K → Y → Type 0) (x : X) (old new : List Y) : Type 0 where
  pub constraints : List Y
  pub behind : new ≡ old ++ constraints
  pub are : AreRecordsOf asked gives (x ∷ []) constraints

-- the constraint of a mask, with these steps
abbrev pub constraint_with : List Step → ClassId × ℕ → Constraint
constraint_with ss m = record { class = m.0.number; mask = m.1; expr = ss }

-- those of an enabled constraint were put behind others, by what its words mean
abbrev pub AddsConstraints : Known → Standing → List Class → GivenPermissions → Item → List (Option ℕ) → List Constraint → List Constraint → Type 0
AddsConstraints k sets classes given x words old new =
    (xs : List Item) → IsConstraining xs (enabled_in k) x.keyword → is_enabled (enabled_in k) x ≡ true
    → ForNames k xs sets classes given (λ names. words ≡ row_in k x → AreBehind (CaseBy xs (enabled_in k)) (IsConstraintOf xs (enabled_in k) names classes) x old new)

-- these are the steps of what the term asks for, by meanings that begin with those of its words
pub record IsMade (sets : Standing) (m : ℕ) (t : rust.Term) (words : List (Option ℕ)) (ss : List Step) : Type 0 where
  pub put : IsPut sets (λ k f. BeginWith k f (said_of m t) words) (λ most. Nests most (said_of m t)) (λ f. said (term_with f m t)) [] ss
  pub one : IsExpression ss

-- they are, or it asks for nothing
abbrev pub IsMadeIf : Bool → Standing → ℕ → rust.Term → List (Option ℕ) → List Step → Type 0
IsMadeIf true sets m t words ss = IsMade sets m t words ss
IsMadeIf false sets m t words ss = IsUnsaid m t

-- What is wrong with the classes of a policy. This project's profile.
use Rattle.std.specs.Prelude.{◌≡◌, ℕ, ◌<◌, true, List, length, Contains, codes}
use Rattle.cil_base.specs.Lists.{Lists, text_cmp}
use Rattle.cil_faults.specs.declared.code.FaultCode.TheVariants as causes
use Rattle.cil_faults.specs.declared.fault.Fault.{Fault}
use Rattle.cil_syntax.specs.declared.kind.Keyword.TheVariants as keywords
use Rattle.cil_syntax.specs.declared.kind.Kind.TheVariants as kinds
use Rattle.cil_faults.specs.declared.spot.Spot.{Spot}
use Rattle.cil_syntax.specs.Terms.{Name, Terms, cons}
use Rattle.cil_faults.specs.Reported.{fault_at, global_fault}
use Rattle.cil_macros.specs.Item.{Item, OptSet, is_enabled}
use Rattle.cil_syntax.specs.Scopes.{ScopedWord}
use Rattle.cil_names.specs.Declarations.{Declared, Symbol, name_of, nowhere}
use Rattle.cil_names.specs.Resolves.{has_permission}
use Rattle.cil_classes.specs.Commons.{HasTwoCommons}
use Rattle.cil_classes.specs.Row.{most_permissions}

-- how many classes a policy may have
abbrev pub most_classes : ℕ
most_classes = 1024

-- the qualified name of a class that is declared
pub record IsClassName (s : OptSet) (xs : List Item) (name : List ℕ) : Type 0 where
  pub symbol : Symbol
  pub declared : Declared xs s kinds.Class symbol
  pub named : name_of symbol ≡ name

-- more classes are declared than a policy may have, told of the policy
pub record HasManyClasses (s : OptSet) (xs : List Item) (f : Fault) : Type 0 where
  pub names : List (List ℕ)
  pub are_names : Lists text_cmp (IsClassName s xs) names
  pub many : most_classes < length names
  pub told : f ≡ global_fault causes.TooMany nowhere (codes "classes")

-- an enabled class has more permissions than a mask has bits, statements join two different commons to a class, or there are more
-- classes than a policy may have
pub data ClassFault (s : OptSet) (xs : List Item) : Fault → Type 0 where
  wide : (x : Item) (at : Spot) (name : List ℕ) (rest : Terms ScopedWord) (permissions : List (List ℕ)) → Contains xs x → is_enabled s x ≡ true
      → x.keyword ≡ keywords.Class → x.args ≡ cons (Name at name) rest
      → Lists text_cmp (λ p. has_permission xs (record { space = x.space; name = name }) p ≡ true) permissions
      → most_permissions < length permissions → ClassFault s xs (fault_at causes.ClassWide at x.space name)
  two_commons : (x : Item) (f : Fault) → Contains xs x → HasTwoCommons xs x f → ClassFault s xs f
  too_many : (f : Fault) → HasManyClasses s xs f → ClassFault s xs f

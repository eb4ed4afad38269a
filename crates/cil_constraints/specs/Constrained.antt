-- Which constraints a policy has on a permission. CIL Reference Guide, "constrain", "mlsconstrain".
use Rattle.std.specs.Prelude.{◌≡◌, ◌⊎◌, ℕ, true, List, Some}
use Rattle.cil_syntax.specs.declared.kind.Keyword.{Keyword}
use Rattle.cil_syntax.specs.declared.kind.Keyword.TheVariants as keywords
use Rattle.cil_syntax.specs.Terms.{Term, nil, cons}
use Rattle.cil_syntax.specs.Scopes.{ScopedWord}
use Rattle.cil_macros.specs.Item.{Item, OptSet}
use Rattle.cil_classes.specs.names.Declarations.{Symbol}
use Rattle.cil_classes.specs.known.Says.{Says}
use Rattle.cil_classes.specs.Given.{HasPair}
use Rattle.cil_mls.specs.OrderFaults.{Switches}
use Rattle.cil_constraints.specs.Expressions.{Expression}
use Rattle.cil_constraints.specs.Saying.{said}

-- a statement with this first word is a constraint: `mlsconstrain` only where an enabled `(mls true)` turns levels on
abbrev pub IsConstraining : List Item → OptSet → Keyword → Type 0
IsConstraining xs s keyword = (keyword ≡ keywords.Constrain) ⊎ ((keyword ≡ keywords.MlsConstrain) × Switches xs s true)

-- an enabled constraint on the permission asks for this
pub record IsConstrained (xs : List Item) (s : OptSet) (class_ : Symbol) (permission : List ℕ) (e : Expression (List ScopedWord)) : Type 0 where
  pub keyword : Keyword
  pub constraining : IsConstraining xs s keyword
  pub class_permission : Term ScopedWord
  pub term : Term ScopedWord
  pub statement : Says xs s keyword (cons class_permission (cons term nil))
  pub said : said term ≡ Some e
  pub on : HasPair xs s class_permission class_ permission

-- What a constraint asks for, by the numbers of the members of its sets. This project's profile.
use Rattle.std.specs.Prelude.{◌≡◌, ℕ, List}
use Rattle.std.specs.Ordering.{nat_cmp}
use Rattle.cil_base.specs.Lists.{Lists}
use Rattle.cil_syntax.specs.declared.kind.Kind.{Kind}
use Rattle.cil_syntax.specs.Scopes.{ScopedWord}
use Rattle.cil_macros.specs.Item.{Item, OptSet}
use Rattle.cil_syntax.specs.declared.kind.Kind.TheVariants as kinds
use Rattle.cil_classes.specs.names.Declarations.{Declared, Symbol}
use Rattle.cil_classes.specs.known.Known.{IsNumbered}
use Rattle.cil_constraints.specs.declared.expr.Context.{Context as Numbers}
use Rattle.cil_constraints.specs.declared.step.Part.{Part}
use Rattle.cil_constraints.specs.Contexts.{Context, IsAmong, kind_of}
use Rattle.cil_constraints.specs.Expressions.{Expression, Negated, Both, Either, Compared, Ranked, Inside}

-- the number of a symbol for which one of the words stands, by the sections that number names
pub record HasNumberAmong (xs : List Item) (s : OptSet) (names : Kind → List (List ℕ)) (part : Part) (words : List ScopedWord) (n : ℕ) : Type 0 where
  pub symbol : Symbol
  pub among : IsAmong xs s part words symbol
  pub numbered : IsNumbered (names (kind_of part)) symbol n

-- an expression by the numbers of its sets' members
abbrev pub IsExpressionOf : List Item → OptSet → (Kind → List (List ℕ)) → Expression (List ScopedWord) → Expression (List ℕ) → Type 0
IsExpressionOf xs s names (Negated d) e = (f : Expression (List ℕ)) × (e ≡ Negated f) × IsExpressionOf xs s names d f
IsExpressionOf xs s names (Both c d) e = (f g : Expression (List ℕ)) × (e ≡ Both f g) × IsExpressionOf xs s names c f × IsExpressionOf xs s names d g
IsExpressionOf xs s names (Either c d) e = (f g : Expression (List ℕ)) × (e ≡ Either f g) × IsExpressionOf xs s names c f × IsExpressionOf xs s names d g
IsExpressionOf xs s names (Compared part equality) e = e ≡ Compared part equality
IsExpressionOf xs s names (Ranked pair relation) e = e ≡ Ranked pair relation
IsExpressionOf xs s names (Inside part side equality words) e =
    (set : List ℕ) × (e ≡ Inside part side equality set) × Lists nat_cmp (HasNumberAmong xs s names part words) set

-- a context by the numbers of its user, its role and its type, which are declared, and with the same levels
pub record IsContextOf (xs : List Item) (s : OptSet) (names : Kind → List (List ℕ)) (c : Context) (n : Numbers) : Type 0 where
  pub user : IsNumbered (names kinds.User) c.user n.user
  pub role : IsNumbered (names kinds.Role) c.role n.role
  pub kind : IsNumbered (names kinds.Type_) c.kind n.kind
  pub low : n.low ≡ c.low
  pub high : n.high ≡ c.high
  pub a_user : Declared xs s kinds.User c.user
  pub a_role : Declared xs s kinds.Role c.role
  pub a_type : Declared xs s kinds.Type_ c.kind

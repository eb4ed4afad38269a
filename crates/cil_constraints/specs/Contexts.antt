-- What a policy says of two contexts: whether they are what a constraint asks for. CIL Reference Guide, "Constraint Statements"; The
-- SELinux Notebook, "Constraint Statements".
use Rattle.std.specs.Prelude.{◌≡◌, ◌⊎◌, true, List, Contains}
use Rattle.cil_syntax.specs.declared.kind.Kind.{Kind}
use Rattle.cil_syntax.specs.declared.kind.Kind.TheVariants as kinds
use Rattle.cil_syntax.specs.Scopes.{ScopedWord}
use Rattle.cil_macros.specs.Item.{Item, OptSet}
use Rattle.cil_classes.specs.names.Declarations.{Symbol}
use Rattle.cil_classes.specs.known.Members.{StandsFor}
use Rattle.cil_mls.specs.declared.level.Level.{Level}
use Rattle.cil_constraints.specs.declared.step.Part.{Part}
use Rattle.cil_constraints.specs.declared.step.Part.TheVariants as parts
use Rattle.cil_constraints.specs.declared.step.Equality.{Equality}
use Rattle.cil_constraints.specs.declared.step.Equality.TheVariants as equalities
use Rattle.cil_constraints.specs.Expressions.{Expression, Negated, Both, Either, Compared, Ranked, Inside}
use Rattle.cil_constraints.specs.Truth.{ranked, side_of}

-- a user, a role, a type and two levels
pub record Context : Type 0 where
  pub user : Symbol
  pub role : Symbol
  pub kind : Symbol
  pub low : Level
  pub high : Level

abbrev pub kind_of : Part → Kind
kind_of parts.User = kinds.User
kind_of parts.Role = kinds.Role
kind_of parts.Kind = kinds.Type_

abbrev pub symbol_of : Part → Context → Symbol
symbol_of parts.User c = c.user
symbol_of parts.Role c = c.role
symbol_of parts.Kind c = c.kind

-- one of the words stands for the symbol
pub record IsAmong (xs : List Item) (s : OptSet) (part : Part) (words : List ScopedWord) (t : Symbol) : Type 0 where
  pub word : ScopedWord
  pub is_word : Contains words word
  pub stands : StandsFor xs s (kind_of part) word t

-- `eq` asks for the fact, `neq` for its opposite
abbrev pub AsAsked : Equality → Type 0 → Type 0
AsAsked equalities.Equal fact = fact
AsAsked equalities.Different fact = fact → ⊥

-- the expression is true of a source and a target
abbrev pub IsTrueOf : List Item → OptSet → Context → Context → Expression (List ScopedWord) → Type 0
IsTrueOf xs s a b (Negated e) = IsTrueOf xs s a b e → ⊥
IsTrueOf xs s a b (Both e f) = IsTrueOf xs s a b e × IsTrueOf xs s a b f
IsTrueOf xs s a b (Either e f) = IsTrueOf xs s a b e ⊎ IsTrueOf xs s a b f
IsTrueOf xs s a b (Compared part equality) = AsAsked equality (symbol_of part a ≡ symbol_of part b)
IsTrueOf xs s a b (Ranked pair relation) = ranked pair relation a.low a.high b.low b.high ≡ true
IsTrueOf xs s a b (Inside part side equality words) = AsAsked equality (IsAmong xs s part words (symbol_of part (side_of side a b)))

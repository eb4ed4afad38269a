-- What tables say is what the policy says. This project's profile.
use Rattle.std.specs.Prelude.{◌≡◌, ◌↔◌, ℕ, Bool, List, [], slice_get, Some}
use Rattle.cil_syntax.specs.declared.kind.Keyword.{Keyword}
use Rattle.cil_syntax.specs.declared.kind.Keyword.TheVariants as keywords
use Rattle.cil_syntax.specs.declared.kind.Kind.TheVariants as kinds
use Rattle.cil_constraints.specs.declared.expr.Context.{Context as Numbers}
use Rattle.cil_constraints.specs.Constrained.{IsConstrained}
use Rattle.cil_constraints.specs.Contexts.{Context, IsTrueOf}
use Rattle.cil_constraints.specs.Expressions.{Expression}
use Rattle.cil_constraints.specs.Permitted.{AllMet}
use Rattle.cil_syntax.specs.Scopes.{ScopedWord}
use Rattle.cil_classes.specs.declared.row.Class.{Class}
use Rattle.cil_tables.specs.Contexts.{IsValid}
use Rattle.cil_neverallow.specs.rules.Covered.{IsCovered}
use Rattle.cil_known.specs.Known.{IsNumbered}
use Rattle.cil_tables.specs.Compiled.{IsTable}
use Rattle.cil_names.specs.Declarations.{Declared, Symbol, name_of}
use Rattle.cil_tables.specs.Faults.{ArePolicyFaults}
use Rattle.cil_macros.specs.Item.{Item, OptSet}
use Rattle.cil_optionals.specs.Policy.{ArePolicy}
use Rattle.cil_neverallow.specs.rules.Covers.{HasCover}
use Rattle.cil_neverallow.specs.rules.Rule.{Rule}
use Rattle.cil_tables.specs.Meaning.{Bars, IsContext}
use Rattle.cil_tables.specs.RoleChanges.{IsBarred}
use Rattle.cil_neverallow.specs.conditions.Conditions.{Settings}
use Rattle.cil_neverallow.specs.conditions.Spelled.{AreSameSettings}
use Rattle.cil_tables.specs.Table.{Table, boolean_names}

-- the numbers of a context are those of three declared symbols, and its levels are the same
pub record SameContext (xs : List Item) (s : OptSet) (t : Table) (n : Numbers) (c : Context) : Type 0 where
  pub user : IsNumbered t.users c.user n.user
  pub role : IsNumbered t.roles c.role n.role
  pub kind : IsNumbered t.types c.kind n.kind
  pub low : n.low ≡ c.low
  pub high : n.high ≡ c.high
  pub a_user : Declared xs s kinds.User c.user
  pub a_role : Declared xs s kinds.Role c.role
  pub a_type : Declared xs s kinds.Type_ c.kind

-- the number and the bit are those of a permission of a declared class
pub record SamePermission (xs : List Item) (s : OptSet) (t : Table) (number bit : ℕ) (c : Symbol) (permission : List ℕ) : Type 0 where
  pub row : Class
  pub is_row : slice_get t.classes number ≡ Some row
  pub named : row.name ≡ name_of c
  pub a_class : Declared xs s kinds.Class c
  pub is_permission : slice_get row.permissions bit ≡ Some permission

-- by the same settings the rules of a section cover what an enabled rule of the policy with this first word covers
abbrev pub CoverAs : List Item → OptSet → Table → Keyword → List Rule → Type 0
CoverAs xs s t keyword rules = (on : ℕ → Bool) (v : Settings) → AreSameSettings (boolean_names t.booleans) on v → (n m : Numbers) (a b : Context) (number bit : ℕ) (c : Symbol) (permission : List ℕ) → SameContext xs s t n a → SameContext xs s t m b
    → SamePermission xs s t number bit c permission
    → HasCover on rules n.kind m.kind number bit ↔ IsCovered xs s v keyword a.kind b.kind c permission

-- they bar the changes of role that the policy bars
abbrev pub BarsAs : List Item → OptSet → Table → Type 0
BarsAs xs s t = (n m : Numbers) (a b : Context) (number bit : ℕ) (c : Symbol) (permission : List ℕ) → SameContext xs s t n a → SameContext xs s t m b → SamePermission xs s t number bit c permission
    → Bars t n m number bit ↔ IsBarred xs s a b c permission

-- each constraint of the policy on the permission is true of two contexts
abbrev pub AllHold : List Item → OptSet → Context → Context → Symbol → List ℕ → Type 0
AllHold xs s a b c permission = (e : Expression (List ScopedWord)) → IsConstrained xs s c permission e → IsTrueOf xs s a b e

-- their constraints are true where those of the policy are
abbrev pub MeetsAs : List Item → OptSet → Table → Type 0
MeetsAs xs s t = (n m : Numbers) (a b : Context) (number bit : ℕ) (c : Symbol) (permission : List ℕ) → SameContext xs s t n a → SameContext xs s t m b → SamePermission xs s t number bit c permission
    → AllMet n m t.constraints number bit ↔ AllHold xs s a b c permission

-- the tables admit the contexts that are valid, their rules cover what those of the policy cover, their constraints are true where those of the
-- policy are, and they bar the same changes of role
pub record Agrees (xs : List Item) (s : OptSet) (t : Table) : Type 0 where
  pub read : (text : List ℕ) (n : Numbers) → IsContext t text n → (c : Context) × IsValid xs s text c × SameContext xs s t n c
  pub found : (text : List ℕ) (c : Context) → IsValid xs s text c → (n : Numbers) × IsContext t text n × SameContext xs s t n c
  pub allow : CoverAs xs s t keywords.Allow t.rules.allow
  pub auditallow : CoverAs xs s t keywords.AuditAllow t.rules.auditallow
  pub dontaudit : CoverAs xs s t keywords.DontAudit t.rules.dontaudit
  pub constraints : MeetsAs xs s t
  pub change : BarsAs xs s t

-- modules compile to the tables: they have no fault, the tables are those of their policy, and they say what it says
pub record Compiles (modules : List (List ℕ)) (t : Table) : Type 0 where
  pub items : List Item
  pub enabled : OptSet
  pub policy : ArePolicy modules items enabled
  pub no_faults : ArePolicyFaults modules []
  pub table : IsTable items enabled t
  pub agrees : Agrees items enabled t

-- Changes of role, and what a roleallow lets. CIL Reference Guide, "roleallow"; The SELinux Notebook, "Role-Based Access Control"
-- and "Role Statements".
use Rattle.std.specs.Prelude.{◌≡◌, ℕ, List}
use Rattle.cil_syntax.specs.declared.kind.Keyword.TheVariants as keywords
use Rattle.cil_syntax.specs.declared.kind.Kind.TheVariants as kinds
use Rattle.cil_names.specs.Declarations.{Symbol, name_of}
use Rattle.cil_macros.specs.Item.{Item, OptSet}
use Rattle.cil_known.specs.Says.{AreJoined}
use Rattle.cil_constraints.specs.Contexts.{Context}
use Rattle.cil_tables.specs.Meaning.{IsTransition, process}

-- a role may change to another
abbrev pub MayChange : List Item → OptSet → Symbol → Symbol → Type 0
MayChange xs s = AreJoined xs s keywords.RoleAllow kinds.Role kinds.Role

-- the permission would change the role of a process, and no enabled roleallow lets it
pub record IsBarred (xs : List Item) (s : OptSet) (from onto : Context) (class_ : Symbol) (permission : List ℕ) : Type 0 where
  pub of_process : name_of class_ ≡ process
  pub transition : IsTransition permission
  pub changes : from.role ≡ onto.role → ⊥
  pub not_let : MayChange xs s from.role onto.role → ⊥

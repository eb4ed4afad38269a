-- How the tables are read: which contexts they admit, and what they answer. The SELinux Notebook, "Security Context" and
-- "Computing Access Decisions"; CIL Reference Guide, "Role Statements" on object_r, "roleallow", and "Constraint Statements".
use Rattle.std.specs.Prelude.{◌≡◌, ◌⊎◌, ℕ, Bool, true, List, codes, Contains, slice_get, Some}
use Rattle.cil_constraints.specs.declared.expr.Context.{Context}
use Rattle.cil_constraints.specs.Permitted.{AllMet}
use Rattle.cil_level_rows.specs.labels.Labels.{BeginsWith}
use Rattle.cil_level_rows.specs.labels.LevelTable.{IsCleared, IsLabelOf}
use Rattle.cil_classes.specs.declared.row.Class.{Class}
use Rattle.cil_tables.specs.Table.{Table}
use Rattle.cil_neverallow.specs.rules.Covers.{HasCover}

-- the role that every policy has, and that every user may have with every type
abbrev pub object_role : List ℕ
object_role = codes "object_r"

-- ---- contexts

-- the parts of a context may stand together: the user has the role, the role has the type, and where levels are on, those of the context
-- are in the range of the user
pub record StandTogether (t : Table) (n : Context) : Type 0 where
  pub role : Contains t.user_roles record { holder = n.user; held = n.role }
  pub kind : Contains t.role_types record { holder = n.role; held = n.kind }
  pub cleared : t.levels.are_on ≡ true → IsCleared t.levels n.user n.low n.high

-- the text names the type of this number: it is its name, or that of an alias of it
abbrev pub IsTypeText : Table → List ℕ → ℕ → Type 0
IsTypeText t text n = (slice_get t.types n ≡ Some text) ⊎ Contains t.type_aliases record { name = text; target = n }

-- the text `user:role:type`, where levels are on with `:low` or `:low-high` behind it, is the context of these numbers and levels, and the
-- context is valid
pub record IsContext (t : Table) (text : List ℕ) (n : Context) : Type 0 where
  pub user : List ℕ
  pub role : List ℕ
  pub kind : List ℕ
  pub rest : List ℕ
  pub begins : BeginsWith text user role rest
  pub label : IsLabelOf t.levels rest kind n.low n.high
  pub a_user : slice_get t.users n.user ≡ Some user
  pub a_role : slice_get t.roles n.role ≡ Some role
  pub a_type : IsTypeText t kind n.kind
  pub admitted : (role ≡ object_role) ⊎ StandTogether t n

-- ---- classes and permissions

-- the class of a number
pub record IsClassAt (t : Table) (class_ : ℕ) (name : List ℕ) : Type 0 where
  pub row : Class
  pub is_row : slice_get t.classes class_ ≡ Some row
  pub named : row.name ≡ name

-- the permission of a bit of a class
pub record IsPermissionAt (t : Table) (class_ bit : ℕ) (name : List ℕ) : Type 0 where
  pub row : Class
  pub is_row : slice_get t.classes class_ ≡ Some row
  pub permission : slice_get row.permissions bit ≡ Some name

-- ---- changes of role

-- the class of processes: the global one, since no name has a dot
abbrev pub process : List ℕ
process = codes "process"

-- the permissions by which a process gets another context: for a new program, and by its own will
abbrev pub IsTransition : List ℕ → Type 0
IsTransition permission = (permission ≡ codes "transition") ⊎ (permission ≡ codes "dyntransition")

-- the permission of the bit would change the role of a process, and the tables do not let that role change to the other
pub record Bars (t : Table) (source target : Context) (class_ bit : ℕ) : Type 0 where
  pub row : Class
  pub is_row : slice_get t.classes class_ ≡ Some row
  pub of_process : row.name ≡ process
  pub permission : List ℕ
  pub is_permission : slice_get row.permissions bit ≡ Some permission
  pub transition : IsTransition permission
  pub changes : source.role ≡ target.role → ⊥
  pub not_let : Contains t.role_allows record { holder = source.role; held = target.role } → ⊥

-- ---- decisions

-- the tables permit it between two contexts, where these booleans are on: some rule of them covers the permission of the bit, each
-- constraint of them on it is true, and it makes no change of role that they bar
pub record Permits (t : Table) (on : ℕ → Bool) (source target : Context) (class_ bit : ℕ) : Type 0 where
  pub covered : HasCover on t.rules.allow source.kind target.kind class_ bit
  pub constraints : AllMet source target t.constraints class_ bit
  pub change : Bars t source target class_ bit → ⊥

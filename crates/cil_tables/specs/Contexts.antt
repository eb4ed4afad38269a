-- Which contexts are valid. The SELinux Notebook, "Security Context"; CIL Reference Guide, "roletype", "userrole",
-- "typealias", "Role Statements" on object_r, and "userrange".
use Rattle.std.specs.Prelude.{◌≡◌, ◌⊎◌, ℕ, true, List}
use Rattle.cil_syntax.specs.declared.kind.Keyword.TheVariants as keywords
use Rattle.cil_syntax.specs.declared.kind.Kind.TheVariants as kinds
use Rattle.cil_names.specs.Declarations.{Declared, Symbol, name_of}
use Rattle.cil_macros.specs.Item.{Item, OptSet}
use Rattle.cil_tables.specs.Aliases.{NamesType}
use Rattle.cil_tables.specs.Meaning.{object_role}
use Rattle.cil_known.specs.Says.{AreJoined}
use Rattle.cil_constraints.specs.Contexts.{Context}
use Rattle.cil_level_rows.specs.mls.OrderFaults.{Switches}
use Rattle.cil_level_rows.specs.ranges.Levels.{Ground}
use Rattle.cil_level_rows.specs.ranges.Steps.{IsGround}
use Rattle.cil_level_rows.specs.labels.Labels.{BeginsWith}
use Rattle.cil_level_rows.specs.Rows.{IsClearedBy, IsLabelBy}

-- the user has the role
abbrev pub HasRole : List Item → OptSet → Symbol → Symbol → Type 0
HasRole xs s = AreJoined xs s keywords.UserRole kinds.User kinds.Role

-- the role has the type
abbrev pub HasType : List Item → OptSet → Symbol → Symbol → Type 0
HasType xs s = AreJoined xs s keywords.RoleType kinds.Role kinds.Type_

-- the user may have these levels, where levels are on
abbrev pub IsClearedFor : List Item → OptSet → Ground → Context → Type 0
IsClearedFor xs s g c = Switches xs s true → IsClearedBy s g c.user c.low c.high

-- the text is the context, and the context is valid: its three symbols are declared, its levels are of sensitivities that permit their
-- categories, and the high one dominates the low one; and unless the role is object_r, the user has the role, the role has the type and
-- the user's range has the levels. The type may be written by the name of an alias. Without an mls statement that turns levels on, there are none
pub record IsValid (xs : List Item) (s : OptSet) (text : List ℕ) (c : Context) : Type 0 where
  pub ground : Ground
  pub is_ground : IsGround xs s ground
  pub written : List ℕ
  pub rest : List ℕ
  pub begins : BeginsWith text (name_of c.user) (name_of c.role) rest
  pub label : IsLabelBy xs s ground rest written c.low c.high
  pub names_kind : NamesType xs s written c.kind
  pub a_user : Declared xs s kinds.User c.user
  pub a_role : Declared xs s kinds.Role c.role
  pub a_type : Declared xs s kinds.Type_ c.kind
  pub admitted : (name_of c.role ≡ object_role) ⊎ (HasRole xs s c.user c.role × HasType xs s c.role c.kind × IsClearedFor xs s ground c)

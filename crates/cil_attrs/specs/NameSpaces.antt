-- The name spaces whose words may stand for other symbols: of types, of roles, of users, of sensitivities and of categories. CIL
-- Reference Guide, "Type Statements", "Role Statements", "User Statements", "Multi-Level Security Labeling Statements".
use Rattle.std.specs.Prelude.{Bool, ◌||◌, Some, None}
use Rattle.cil_syntax.specs.declared.kind.Keyword.TheVariants as keywords
use Rattle.cil_syntax.specs.declared.kind.Kind.{Kind}
use Rattle.cil_syntax.specs.declared.kind.Kind.TheVariants as kinds
use Rattle.cil_attrs.specs.declared.giver.SetKind.{SetKind}
use Rattle.cil_attrs.specs.declared.giver.SpaceKinds.{SpaceKinds}
use Rattle.cil_attrs.specs.Begun.{is_sets_kind}
use Rattle.cil_attrs.specs.Holding.{is_kind}

-- the kinds of sets, and the statements that give these their members
abbrev pub type_aliases : SetKind
type_aliases = record { kind = kinds.TypeAlias; giving = keywords.TypeAliasActual }

abbrev pub type_attributes : SetKind
type_attributes = record { kind = kinds.TypeAttribute; giving = keywords.TypeAttributeSet }

abbrev pub role_attributes : SetKind
role_attributes = record { kind = kinds.RoleAttribute; giving = keywords.RoleAttributeSet }

abbrev pub user_attributes : SetKind
user_attributes = record { kind = kinds.UserAttribute; giving = keywords.UserAttributeSet }

abbrev pub sensitivity_aliases : SetKind
sensitivity_aliases = record { kind = kinds.SensitivityAlias; giving = keywords.SensitivityAliasActual }

abbrev pub category_aliases : SetKind
category_aliases = record { kind = kinds.CategoryAlias; giving = keywords.CategoryAliasActual }

-- the kind of the items of each name space, and the kinds of its sets
abbrev pub types_kinds : SpaceKinds
types_kinds = record { item = kinds.Type_; aliases = Some type_aliases; attributes = Some type_attributes }

abbrev pub roles_kinds : SpaceKinds
roles_kinds = record { item = kinds.Role; aliases = None; attributes = Some role_attributes }

abbrev pub users_kinds : SpaceKinds
users_kinds = record { item = kinds.User; aliases = None; attributes = Some user_attributes }

abbrev pub sensitivities_kinds : SpaceKinds
sensitivities_kinds = record { item = kinds.Sensitivity; aliases = Some sensitivity_aliases; attributes = None }

abbrev pub categories_kinds : SpaceKinds
categories_kinds = record { item = kinds.Category; aliases = Some category_aliases; attributes = None }

-- the kind is one of the name space
abbrev pub is_kind_of : SpaceKinds → Kind → Bool
is_kind_of r kind = is_kind kind r.item || is_sets_kind r kind

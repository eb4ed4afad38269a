-- What a word stands for: an item for itself, an alias for its target, an attribute for its members. CIL Reference Guide, "Type
-- Statements", "Role Statements", "User Statements".
use Rattle.std.specs.Prelude.{◌≡◌, Bool, true, false, List, None, Some}
use Rattle.cil_syntax.specs.declared.kind.Keyword.{Keyword}
use Rattle.cil_syntax.specs.declared.kind.Keyword.TheVariants as keywords
use Rattle.cil_syntax.specs.declared.kind.Kind.{Kind}
use Rattle.cil_syntax.specs.declared.kind.Kind.TheVariants as kinds
use Rattle.cil_syntax.specs.Scopes.{ScopedWord}
use Rattle.cil_names.specs.macros.Item.{Item, OptSet}
use Rattle.cil_names.specs.Declarations.{Declared, Symbol}
use Rattle.cil_known.specs.Family.{Family, Solves, holds, no_range}
use Rattle.cil_known.specs.Spaces.{SpaceOf}

-- the statements that give aliases of types, and attributes of types, roles and users, their members
abbrev pub gives_type_aliases : Keyword → Bool
gives_type_aliases keywords.TypeAliasActual = true
gives_type_aliases keyword = false

abbrev pub gives_type_attributes : Keyword → Bool
gives_type_attributes keywords.TypeAttributeSet = true
gives_type_attributes keyword = false

abbrev pub gives_role_attributes : Keyword → Bool
gives_role_attributes keywords.RoleAttributeSet = true
gives_role_attributes keyword = false

abbrev pub gives_user_attributes : Keyword → Bool
gives_user_attributes keywords.UserAttributeSet = true
gives_user_attributes keyword = false

abbrev pub gives_sensitivity_aliases : Keyword → Bool
gives_sensitivity_aliases keywords.SensitivityAliasActual = true
gives_sensitivity_aliases keyword = false

abbrev pub gives_category_aliases : Keyword → Bool
gives_category_aliases keywords.CategoryAliasActual = true
gives_category_aliases keyword = false

-- the name space of the items of a kind. Types have aliases and attributes, roles and users have attributes, sensitivities and
-- categories have aliases; a name of any other kind stands for itself alone. Sets of categories are left out: what they hold rests on
-- the order of categories, whose statements name none
abbrev pub space_of : Kind → SpaceOf
space_of kinds.Type_ = record {
  item = kinds.Type_;
  aliases = Some (record { kind = kinds.TypeAlias; giving = gives_type_aliases });
  attributes = Some (record { kind = kinds.TypeAttribute; giving = gives_type_attributes });
}
space_of kinds.Role = record { item = kinds.Role; aliases = None; attributes = Some (record { kind = kinds.RoleAttribute; giving = gives_role_attributes }) }
space_of kinds.User = record { item = kinds.User; aliases = None; attributes = Some (record { kind = kinds.UserAttribute; giving = gives_user_attributes }) }
space_of kinds.Sensitivity = record {
  item = kinds.Sensitivity;
  aliases = Some (record { kind = kinds.SensitivityAlias; giving = gives_sensitivity_aliases });
  attributes = None;
}
space_of kinds.Category = record {
  item = kinds.Category;
  aliases = Some (record { kind = kinds.CategoryAlias; giving = gives_category_aliases });
  attributes = None;
}
space_of kind = record { item = kind; aliases = None; attributes = None }

-- a kind without aliases and attributes
abbrev pub HasNoSets : Kind → Type 0
HasNoSets kind = space_of kind ≡ record { item = kind; aliases = None; attributes = None }

-- the symbol is one of those of this kind for which the word stands: the word holds it in a family of sets that have just the
-- members that their statements give them
pub record StandsFor (xs : List Item) (s : OptSet) (kind : Kind) (w : ScopedWord) (t : Symbol) : Type 0 where
  pub family : Family
  pub solves : Solves xs s (space_of kind) no_range family
  pub held : holds xs s (space_of kind) no_range family w t ≡ true
  pub declared : Declared xs s kind t

-- the item is one of those that the alias or the attribute has
pub record IsMember (xs : List Item) (s : OptSet) (kind : Kind) (set item : Symbol) : Type 0 where
  pub family : Family
  pub solves : Solves xs s (space_of kind) no_range family
  pub has : family set item ≡ true
  pub declared : Declared xs s kind item

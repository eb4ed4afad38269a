-- The name spaces of types, roles and users are those for which members are made.
use Rattle.std.proofs.Common.{◌≡◌, true, false, refl, ap}
use Rattle.cil_syntax.specs.declared.kind.Keyword.{Keyword}
use Rattle.cil_syntax.specs.declared.kind.Keyword.TheVariants as keywords
use Rattle.cil_syntax.specs.declared.kind.Kind.TheVariants as kinds
use Rattle.cil_known.specs.Members.{gives_role_attributes, gives_type_aliases, gives_type_attributes, gives_user_attributes, space_of}
use Rattle.cil_level_rows.specs.attrs.Givers.{HasKinds}
use Rattle.cil_level_rows.specs.attrs.NameSpaces.{roles_kinds, types_kinds, users_kinds}

by_aliases : (w : Keyword) → gives_type_aliases w ≡ true → w ≡ keywords.TypeAliasActual
by_aliases keywords.TypeAliasActual e = refl
by_aliases w e = absurd (let f : false ≡ true = e in cc)

by_type_attributes : (w : Keyword) → gives_type_attributes w ≡ true → w ≡ keywords.TypeAttributeSet
by_type_attributes keywords.TypeAttributeSet e = refl
by_type_attributes w e = absurd (let f : false ≡ true = e in cc)

by_role_attributes : (w : Keyword) → gives_role_attributes w ≡ true → w ≡ keywords.RoleAttributeSet
by_role_attributes keywords.RoleAttributeSet e = refl
by_role_attributes w e = absurd (let f : false ≡ true = e in cc)

by_user_attributes : (w : Keyword) → gives_user_attributes w ≡ true → w ≡ keywords.UserAttributeSet
by_user_attributes keywords.UserAttributeSet e = refl
by_user_attributes w e = absurd (let f : false ≡ true = e in cc)

pub types_space : HasKinds types_kinds (space_of kinds.Type_)
types_space = record {
  item = refl;
  aliases = record { kind = refl; giving = λ w. (by_aliases w, ap gives_type_aliases) };
  attributes = record { kind = refl; giving = λ w. (by_type_attributes w, ap gives_type_attributes) };
}

pub roles_space : HasKinds roles_kinds (space_of kinds.Role)
roles_space = record { item = refl; aliases = tt; attributes = record { kind = refl; giving = λ w. (by_role_attributes w, ap gives_role_attributes) } }

pub users_space : HasKinds users_kinds (space_of kinds.User)
users_space = record { item = refl; aliases = tt; attributes = record { kind = refl; giving = λ w. (by_user_attributes w, ap gives_user_attributes) } }

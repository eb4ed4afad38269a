-- The laws hold of the name spaces of types, of roles, of users, of sensitivities and of categories. No other crate needs these words.
use Rattle.std.specs.Prelude.{Some, None, ◌⊎◌}
use Rattle.std.proofs.Common.{◌≡◌, true, false, refl, sym, ◌∙◌, ap, inl, inr}
use Rattle.cil_syntax.specs.declared.kind.Kind.{Kind}
use Rattle.cil_syntax.specs.declared.kind.Kind.TheVariants as kinds
use Rattle.cil_syntax.specs.declared.kind.Sign.{Sign}
use Rattle.cil_syntax.specs.declared.kind.Sign.TheVariants as signs
use Rattle.cil_syntax.specs.declared.name_space.NameSpace.TheVariants as name_spaces
use Rattle.cil_syntax.specs.Kinds.{is_wanted}
use Rattle.cil_syntax.specs.NameSpaces.{name_space}
use Rattle.cil_syntax.specs.Shapes.{close, item, looked_up}
use Rattle.cil_syntax.specs.Table.{entry_of}
use Rattle.cil_attrs.specs.declared.giver.SetKind.{SetKind}
use Rattle.cil_attrs.specs.declared.giver.SpaceKinds.{SpaceKinds}
use Rattle.cil_attrs.specs.Givers.{AreWritten}
use Rattle.cil_attrs.specs.Laws.{AliasesStay, AreOfKind, IsOfKind, IsSignOf, IsWhole, StandsApart}
use Rattle.cil_attrs.specs.NameSpaces.{categories_kinds, category_aliases, role_attributes, roles_kinds, sensitivities_kinds, sensitivity_aliases, type_aliases, type_attributes, types_kinds, user_attributes, users_kinds}

-- ---- each symbol is an item, an alias or an attribute

same_set : (a b : SetKind) → Some a ≡ Some b → a ≡ b
same_set a b e = cc

-- the kind of sets that there are
its_kind : (q : SetKind) (kind : Kind) → AreOfKind (Some q) kind → kind ≡ q.kind
its_kind q kind (a, e, k) = k ∙ ap (λ (s : SetKind). s.kind) (sym (same_set q a e))

no_kind : (kind : Kind) → AreOfKind None kind → ⊥
no_kind kind (a, e, k) = let f : None ≡ Some a = e in cc

types_there : (kind : Kind) → name_space kind ≡ name_spaces.Types → IsOfKind types_kinds kind
types_there kinds.Type_ e = inl refl
types_there kinds.TypeAlias e = inr (inl (type_aliases, refl, refl))
types_there kinds.TypeAttribute e = inr (inr (type_attributes, refl, refl))
types_there kind e = absurd cc

roles_there : (kind : Kind) → name_space kind ≡ name_spaces.Roles → IsOfKind roles_kinds kind
roles_there kinds.Role e = inl refl
roles_there kinds.RoleAttribute e = inr (inr (role_attributes, refl, refl))
roles_there kind e = absurd cc

users_there : (kind : Kind) → name_space kind ≡ name_spaces.Users → IsOfKind users_kinds kind
users_there kinds.User e = inl refl
users_there kinds.UserAttribute e = inr (inr (user_attributes, refl, refl))
users_there kind e = absurd cc

sensitivities_there : (kind : Kind) → name_space kind ≡ name_spaces.Sensitivities → IsOfKind sensitivities_kinds kind
sensitivities_there kinds.Sensitivity e = inl refl
sensitivities_there kinds.SensitivityAlias e = inr (inl (sensitivity_aliases, refl, refl))
sensitivities_there kind e = absurd cc

categories_there : (kind : Kind) → name_space kind ≡ name_spaces.Categories → IsOfKind categories_kinds kind ⊎ StandsApart categories_kinds kind
categories_there kinds.Category e = inl (inl refl)
categories_there kinds.CategoryAlias e = inl (inr (inl (category_aliases, refl, refl)))
categories_there kinds.CategorySet e = inr (refl, refl)
categories_there kind e = absurd cc

types_back : (kind : Kind) → IsOfKind types_kinds kind → name_space kind ≡ name_spaces.Types
types_back kind h = elim h [
  | inl e ↦ ap name_space e
  | inr sets ↦ elim sets [ inl q ↦ ap name_space (its_kind type_aliases kind q) | inr q ↦ ap name_space (its_kind type_attributes kind q) ]
]

roles_back : (kind : Kind) → IsOfKind roles_kinds kind → name_space kind ≡ name_spaces.Roles
roles_back kind h = elim h [
  | inl e ↦ ap name_space e
  | inr sets ↦ elim sets [ inl q ↦ absurd (no_kind kind q) | inr q ↦ ap name_space (its_kind role_attributes kind q) ]
]

users_back : (kind : Kind) → IsOfKind users_kinds kind → name_space kind ≡ name_spaces.Users
users_back kind h = elim h [
  | inl e ↦ ap name_space e
  | inr sets ↦ elim sets [ inl q ↦ absurd (no_kind kind q) | inr q ↦ ap name_space (its_kind user_attributes kind q) ]
]

sensitivities_back : (kind : Kind) → IsOfKind sensitivities_kinds kind → name_space kind ≡ name_spaces.Sensitivities
sensitivities_back kind h = elim h [
  | inl e ↦ ap name_space e
  | inr sets ↦ elim sets [ inl q ↦ ap name_space (its_kind sensitivity_aliases kind q) | inr q ↦ absurd (no_kind kind q) ]
]

categories_back : (kind : Kind) → IsOfKind categories_kinds kind ⊎ StandsApart categories_kinds kind → name_space kind ≡ name_spaces.Categories
categories_back kind h = elim h [
  | inl own ↦ elim own [ inl e ↦ ap name_space e | inr sets ↦ elim sets [ inl q ↦ ap name_space (its_kind category_aliases kind q) | inr q ↦ absurd (no_kind kind q) ] ]
  | inr apart ↦ ap name_space apart.1
]

-- nothing stands apart where the items are no categories
only_own : (r : SpaceKinds) (kind : Kind) → (r.item ≡ kinds.Category → ⊥) → (IsOfKind r kind → name_space kind ≡ name_space r.item) → IsOfKind r kind ⊎ StandsApart r kind
    → name_space kind ≡ name_space r.item
only_own r kind other own h = elim h [ inl q ↦ own q | inr apart ↦ absurd (other apart.0) ]

pub types_whole : IsWhole types_kinds
types_whole = record {
  each = λ kind. ((λ e. inl (types_there kind e)), only_own types_kinds kind (λ e. let f : kinds.Type_ ≡ kinds.Category = e in cc) (types_back kind));
  item_or_alias = λ q. let e : kinds.Type_ ≡ kinds.TypeAlias = its_kind type_aliases kinds.Type_ q in cc;
  item_or_attribute = λ q. let e : kinds.Type_ ≡ kinds.TypeAttribute = its_kind type_attributes kinds.Type_ q in cc;
  alias_or_attribute = λ kind a b. let e : kinds.TypeAlias ≡ kinds.TypeAttribute = sym (its_kind type_aliases kind a) ∙ its_kind type_attributes kind b in cc;
}

pub roles_whole : IsWhole roles_kinds
roles_whole = record {
  each = λ kind. ((λ e. inl (roles_there kind e)), only_own roles_kinds kind (λ e. let f : kinds.Role ≡ kinds.Category = e in cc) (roles_back kind));
  item_or_alias = no_kind kinds.Role;
  item_or_attribute = λ q. let e : kinds.Role ≡ kinds.RoleAttribute = its_kind role_attributes kinds.Role q in cc;
  alias_or_attribute = λ kind a b. no_kind kind a;
}

pub users_whole : IsWhole users_kinds
users_whole = record {
  each = λ kind. ((λ e. inl (users_there kind e)), only_own users_kinds kind (λ e. let f : kinds.User ≡ kinds.Category = e in cc) (users_back kind));
  item_or_alias = no_kind kinds.User;
  item_or_attribute = λ q. let e : kinds.User ≡ kinds.UserAttribute = its_kind user_attributes kinds.User q in cc;
  alias_or_attribute = λ kind a b. no_kind kind a;
}

pub sensitivities_whole : IsWhole sensitivities_kinds
sensitivities_whole = record {
  each = λ kind. ((λ e. inl (sensitivities_there kind e)), only_own sensitivities_kinds kind (λ e. let f : kinds.Sensitivity ≡ kinds.Category = e in cc) (sensitivities_back kind));
  item_or_alias = λ q. let e : kinds.Sensitivity ≡ kinds.SensitivityAlias = its_kind sensitivity_aliases kinds.Sensitivity q in cc;
  item_or_attribute = no_kind kinds.Sensitivity;
  alias_or_attribute = λ kind a b. no_kind kind b;
}

pub categories_whole : IsWhole categories_kinds
categories_whole = record {
  each = λ kind. (categories_there kind, categories_back kind);
  item_or_alias = λ q. let e : kinds.Category ≡ kinds.CategoryAlias = its_kind category_aliases kinds.Category q in cc;
  item_or_attribute = no_kind kinds.Category;
  alias_or_attribute = λ kind a b. no_kind kind b;
}

-- ---- targets of aliases

plain_types : (kind : Kind) → is_wanted signs.PlainType kind ≡ true → name_space kind ≡ name_spaces.Types
plain_types kinds.Type_ e = refl
plain_types kinds.TypeAlias e = refl
plain_types kind e = absurd (let f : false ≡ true = e in cc)

-- the second word of a row of two
second_is : (a b first target : Sign) → item (looked_up a) (item (looked_up b) close) ≡ item (looked_up first) (item (looked_up target) close) → b ≡ target
second_is a b first target e = cc

pub types_stay : AliasesStay types_kinds
unfolding entry_of
types_stay a e first target row kind wanted =
    let sign = second_is signs.TypeAliases signs.PlainType first target (ap (λ (s : SetKind). (entry_of s.giving).row) (same_set type_aliases a e) ∙ row) in
    plain_types kind (ap (λ s. is_wanted s kind) sign ∙ wanted)

pub roles_stay : AliasesStay roles_kinds
roles_stay a e first target row kind wanted = absurd (let f : None ≡ Some a = e in cc)

pub users_stay : AliasesStay users_kinds
users_stay a e first target row kind wanted = absurd (let f : None ≡ Some a = e in cc)

plain_sensitivities : (kind : Kind) → is_wanted signs.Sensitivities kind ≡ true → name_space kind ≡ name_spaces.Sensitivities
plain_sensitivities kinds.Sensitivity e = refl
plain_sensitivities kinds.SensitivityAlias e = refl
plain_sensitivities kind e = absurd (let f : false ≡ true = e in cc)

plain_categories : (kind : Kind) → is_wanted signs.Categories kind ≡ true → name_space kind ≡ name_spaces.Categories
plain_categories kinds.Category e = refl
plain_categories kinds.CategoryAlias e = refl
plain_categories kind e = absurd (let f : false ≡ true = e in cc)

pub sensitivities_stay : AliasesStay sensitivities_kinds
unfolding entry_of
sensitivities_stay a e first target row kind wanted =
    let sign = second_is signs.SensitivityAliases signs.Sensitivities first target (ap (λ (s : SetKind). (entry_of s.giving).row) (same_set sensitivity_aliases a e) ∙ row) in
    plain_sensitivities kind (ap (λ s. is_wanted s kind) sign ∙ wanted)

pub categories_stay : AliasesStay categories_kinds
unfolding entry_of
categories_stay a e first target row kind wanted =
    let sign = second_is signs.CategoryAliases signs.Categories first target (ap (λ (s : SetKind). (entry_of s.giving).row) (same_set category_aliases a e) ∙ row) in
    plain_categories kind (ap (λ s. is_wanted s kind) sign ∙ wanted)

-- ---- signs

pub types_wanted : IsSignOf types_kinds signs.Types
types_wanted kinds.Type_ = refl
types_wanted kind = refl

pub roles_wanted : IsSignOf roles_kinds signs.Roles
roles_wanted kinds.Role = refl
roles_wanted kind = refl

pub users_wanted : IsSignOf users_kinds signs.Users
users_wanted kinds.User = refl
users_wanted kind = refl

pub sensitivities_wanted : IsSignOf sensitivities_kinds signs.Sensitivities
sensitivities_wanted kinds.Sensitivity = refl
sensitivities_wanted kind = refl

pub categories_wanted : IsSignOf categories_kinds signs.Categories
categories_wanted kinds.Category = refl
categories_wanted kind = refl

-- ---- statements

pub types_written : AreWritten types_kinds
types_written = (record { written = refl; named = refl; plain = refl }, record { written = refl; named = refl; plain = refl })

pub roles_written : AreWritten roles_kinds
roles_written = (tt, record { written = refl; named = refl; plain = refl })

pub users_written : AreWritten users_kinds
users_written = (tt, record { written = refl; named = refl; plain = refl })

pub sensitivities_written : AreWritten sensitivities_kinds
sensitivities_written = (record { written = refl; named = refl; plain = refl }, tt)

pub categories_written : AreWritten categories_kinds
categories_written = (record { written = refl; named = refl; plain = refl }, tt)

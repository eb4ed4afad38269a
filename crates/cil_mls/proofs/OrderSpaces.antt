-- Sensitivities and categories with their aliases are name spaces of which members are made.
use Rattle.std.proofs.Common.{◌≡◌, true, false, refl, ap}
use Rattle.cil_syntax.specs.declared.kind.Keyword.{Keyword}
use Rattle.cil_syntax.specs.declared.kind.Keyword.TheVariants as keywords
use Rattle.cil_syntax.specs.declared.kind.Kind.TheVariants as kinds
use Rattle.cil_attrs.specs.known.Members.{gives_category_aliases, gives_sensitivity_aliases, space_of}
use Rattle.cil_attrs.specs.Givers.{HasKinds}
use Rattle.cil_attrs.specs.NameSpaces.{categories_kinds, sensitivities_kinds}

by_sensitivity_aliases : (w : Keyword) → gives_sensitivity_aliases w ≡ true → w ≡ keywords.SensitivityAliasActual
by_sensitivity_aliases keywords.SensitivityAliasActual e = refl
by_sensitivity_aliases w e = absurd (let f : false ≡ true = e in cc)

by_category_aliases : (w : Keyword) → gives_category_aliases w ≡ true → w ≡ keywords.CategoryAliasActual
by_category_aliases keywords.CategoryAliasActual e = refl
by_category_aliases w e = absurd (let f : false ≡ true = e in cc)

pub sensitivities_space : HasKinds sensitivities_kinds (space_of kinds.Sensitivity)
sensitivities_space = record { item = refl; aliases = record { kind = refl; giving = λ w. (by_sensitivity_aliases w, ap gives_sensitivity_aliases) }; attributes = tt }

pub categories_space : HasKinds categories_kinds (space_of kinds.Category)
categories_space = record { item = refl; aliases = record { kind = refl; giving = λ w. (by_category_aliases w, ap gives_category_aliases) }; attributes = tt }

-- Which statements declare what is of levels, and which say levels.
use Rattle.std.proofs.Common.{◌≡◌, Bool, true, false, List, refl, ap, subst}
use Rattle.std.specs.Prelude.{Contains}
use Rattle.std.specs.List.{list_any}
use Rattle.cil_base.specs.Lists.{contains_none}
use Rattle.cil_base.specs.MadeLists.{from_map}
use Rattle.cil_base.specs.Searches.{any_from}
use Rattle.cil_faults.specs.Namespaces.{Namespace}
use Rattle.cil_syntax.specs.declared.kind.Keyword.{Keyword}
use Rattle.cil_syntax.specs.declared.kind.Keyword.TheVariants as keywords
use Rattle.cil_syntax.specs.declared.kind.Kind.{Kind}
use Rattle.cil_syntax.specs.declared.kind.Kind.TheVariants as kinds
use Rattle.cil_syntax.specs.Scopes.{ScopedWord}
use Rattle.cil_syntax.specs.Table.{entry_of}
use Rattle.cil_syntax.specs.Terms.{Leaf, Name, Form, Terms, nil, cons}
use Rattle.cil_names.specs.Declarations.{Declaration, content_of, declarations}
use Rattle.cil_ranges.specs.Inside.{says_levels}
use Rattle.cil_level_rows.specs.NoLevels.{is_of_levels}

-- the kinds that levels are made of
abbrev pub is_level_kind : Kind → Bool
is_level_kind kinds.Sensitivity = true
is_level_kind kinds.SensitivityAlias = true
is_level_kind kinds.Category = true
is_level_kind kinds.CategoryAlias = true
is_level_kind kinds.CategorySet = true
is_level_kind kind = false

never : {A : Type 0} → false ≡ true → A
never e = absurd (let f : false ≡ true = e in cc)

-- statements of levels alone declare them
declares_some : (keyword : Keyword) → list_any is_level_kind (entry_of keyword).declares ≡ true → is_of_levels keyword ≡ true
unfolding entry_of
declares_some keywords.Sensitivity e = refl
declares_some keywords.SensitivityAlias e = refl
declares_some keywords.Category e = refl
declares_some keywords.CategoryAlias e = refl
declares_some keywords.CategorySet e = refl
declares_some keyword e = never e

pub declares_level : (keyword : Keyword) (kind : Kind) → is_level_kind kind ≡ true → Contains (entry_of keyword).declares kind → is_of_levels keyword ≡ true
declares_level keyword kind is c = declares_some keyword (any_from is_level_kind (entry_of keyword).declares kind c is)

-- and say levels
pub says_of_levels : (keyword : Keyword) → says_levels keyword ≡ true → is_of_levels keyword ≡ true
says_of_levels keywords.SensitivityCategory e = refl
says_of_levels keywords.CategorySet e = refl
says_of_levels keywords.Level e = refl
says_of_levels keywords.LevelRange e = refl
says_of_levels keywords.UserLevel e = refl
says_of_levels keywords.UserRange e = refl
says_of_levels keywords.RangeTransition e = refl
says_of_levels keywords.Call e = refl
says_of_levels keyword e = never e

-- what a statement declares is of a kind that it declares
pub kind_declared : (space : Namespace) (declared : List Kind) (ts : Terms ScopedWord) (d : Declaration) → Contains (declarations space declared ts) d → Contains declared d.kind
kind_declared space declared nil d c = absurd (contains_none d c)
kind_declared space declared (cons (Leaf w) rest) d c = absurd (contains_none d c)
kind_declared space declared (cons (Form at op parts) rest) d c = absurd (contains_none d c)
kind_declared space declared (cons (Name at name) rest) d c =
    let (kind, has, same) = from_map (λ (q : Kind). record { kind = q; space = space; name = name; content = content_of rest }) declared d c in
    subst (Contains declared) (ap (λ (z : Declaration). z.kind) same) has

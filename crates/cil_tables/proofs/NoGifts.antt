-- Policies without aliases, and without statements that give attributes their members: each word stands for what it names.
use Rattle.std.specs.Prelude.{Contains, Option, Some, None}
use Rattle.std.specs.List.{list_any}
use Rattle.std.specs.Option.{option_map_or}
use Rattle.std.proofs.Common.{◌≡◌, ◌↔◌, Bool, true, false, ◌&&◌, ◌||◌, List, refl, sym, ◌∙◌, ap, subst}
use Rattle.std.proofs.lemmas.Bool.{true≢false}
use Rattle.cil_base.specs.Searches.{any_from, any_true, same_truth}
use Rattle.cil_syntax.specs.declared.kind.Keyword.{Keyword}
use Rattle.cil_syntax.specs.declared.kind.Keyword.TheVariants as keywords
use Rattle.cil_syntax.specs.declared.kind.Kind.{Kind}
use Rattle.cil_syntax.specs.declared.kind.Kind.TheVariants as kinds
use Rattle.cil_syntax.specs.Forms.{word_and_term}
use Rattle.cil_syntax.specs.Scopes.{ScopedWord}
use Rattle.cil_syntax.specs.Table.{entry_of}
use Rattle.cil_syntax.specs.Terms.{Term}
use Rattle.cil_macros.specs.Item.{Item, OptSet, is_enabled}
use Rattle.cil_names.specs.Declarations.{Declaration, Declared, IsDeclaration, Symbol, by, object}
use Rattle.cil_known.specs.Family.{DependsOn, Family, IsRanked, Solves, Uses, at_once, further, gives, holds, in_value, is_given, is_giving, no_range}
use Rattle.cil_known.specs.Members.{StandsFor, gives_category_aliases, gives_role_attributes, gives_sensitivity_aliases, gives_type_aliases, gives_type_attributes, gives_user_attributes, space_of}
use Rattle.cil_known.specs.Spaces.{Sets, any_sets, names}
use Rattle.cil_known.proofs.FamilyLemmas.{stands_is}
use Rattle.cil_level_rows.specs.NoLevels.{is_of_levels}
use Rattle.cil_tables.specs.Laws.{is_flat}
use Rattle.cil_tables.proofs.WideClasses.{of_own_kind}

-- ---- keywords

not_type_aliases : (k : Keyword) → is_flat k ≡ true → gives_type_aliases k ≡ false
not_type_aliases keywords.TypeAliasActual e = absurd cc
not_type_aliases k e = refl

not_type_attributes : (k : Keyword) → is_flat k ≡ true → gives_type_attributes k ≡ false
not_type_attributes keywords.TypeAttributeSet e = absurd cc
not_type_attributes k e = refl

not_role_attributes : (k : Keyword) → is_flat k ≡ true → gives_role_attributes k ≡ false
not_role_attributes keywords.RoleAttributeSet e = absurd cc
not_role_attributes k e = refl

not_user_attributes : (k : Keyword) → is_flat k ≡ true → gives_user_attributes k ≡ false
not_user_attributes keywords.UserAttributeSet e = absurd cc
not_user_attributes k e = refl

not_sensitivity_aliases : (k : Keyword) → is_flat k ≡ true → gives_sensitivity_aliases k ≡ false
not_sensitivity_aliases keywords.SensitivityAliasActual e = absurd cc
not_sensitivity_aliases k e = refl

not_category_aliases : (k : Keyword) → is_flat k ≡ true → gives_category_aliases k ≡ false
not_category_aliases keywords.CategoryAliasActual e = absurd cc
not_category_aliases k e = refl

-- such a statement gives no set of the name space members
pub gives_none : (kind : Kind) (k : Keyword) → is_flat k ≡ true → any_sets (space_of kind) (λ j. j.giving k) ≡ false
gives_none kinds.Type_ k e = ap (λ b. b || gives_type_attributes k) (not_type_aliases k e) ∙ not_type_attributes k e
gives_none kinds.Role k e = not_role_attributes k e
gives_none kinds.User k e = not_user_attributes k e
gives_none kinds.Sensitivity k e = ap (λ b. b || false) (not_sensitivity_aliases k e)
gives_none kinds.Category k e = ap (λ b. b || false) (not_category_aliases k e)
gives_none kind k e = refl

-- the kind is that of aliases
abbrev pub is_alias : Kind → Bool
is_alias kinds.TypeAlias = true
is_alias kinds.SensitivityAlias = true
is_alias kinds.CategoryAlias = true
is_alias kind = false

lacks_alias : (ks : List Kind) → list_any is_alias ks ≡ false → (kind : Kind) → is_alias kind ≡ true → Contains ks kind → ⊥
lacks_alias ks none kind is c = true≢false (sym (any_from is_alias ks kind c is) ∙ none)

-- it declares no alias
pub declares_no_alias : (k : Keyword) → is_flat k ≡ true → (kind : Kind) → is_alias kind ≡ true → Contains (entry_of k).declares kind → ⊥
unfolding entry_of
declares_no_alias keywords.TypeAlias e kind is c = absurd cc
declares_no_alias keywords.SensitivityAlias e kind is c = absurd cc
declares_no_alias keywords.CategoryAlias e kind is c = absurd cc
declares_no_alias k e kind is c = lacks_alias (entry_of k).declares refl kind is c

-- ---- tests

or_false : (a b : Bool) → (a || b) ≡ false → (a ≡ false) × (b ≡ false)
or_false true b e = absurd cc
or_false false b e = (refl, e)

and_false : (a : Bool) → (a && false) ≡ false
and_false true = refl
and_false false = refl

-- the sets to which no statement of the keyword gives anything get nothing from one
no_sets : (o : Option Sets) (k : Keyword) (named : Sets → Bool) → option_map_or (λ j. j.giving k) o false ≡ false → option_map_or (λ j. j.giving k && named j) o false ≡ false
no_sets None k named e = refl
no_sets (Some j) k named e = ap (λ b. b && named j) e

pub empty : Family
empty a t = false

-- the keywords of all items are such
abbrev pub HaveFlatKeywords : List Item → Type 0
HaveFlatKeywords xs = (x : Item) → Contains xs x → is_flat x.keyword ≡ true

not_of_levels : (k : Keyword) → is_flat k ≡ true → is_of_levels k ≡ false
not_of_levels keywords.Call e = absurd cc
not_of_levels k e = cc

-- no item is a statement of levels
pub without_levels : (xs : List Item) → HaveFlatKeywords xs → (x : Item) → Contains xs x → is_of_levels x.keyword ≡ false
without_levels xs flat x c = not_of_levels x.keyword (flat x c)

module _ (xs : List Item) (flat : HaveFlatKeywords xs) (s : OptSet) (kind : Kind) where
  -- no statement names a set to which it gives something
  pub not_giving : (x : Item) → Contains xs x → (a : Symbol) (w : ScopedWord) → is_giving xs s (space_of kind) no_range a x w ≡ false
  not_giving x c a w =
      let none = or_false (option_map_or (λ (j : Sets). j.giving x.keyword) (space_of kind).aliases false) (option_map_or (λ (j : Sets). j.giving x.keyword) (space_of kind).attributes false)
      (gives_none kind x.keyword (flat x c)) in
      ap (λ b. b || option_map_or (λ (j : Sets). j.giving x.keyword && names xs s j.kind w a) (space_of kind).attributes false)
      (no_sets (space_of kind).aliases x.keyword (λ j. names xs s j.kind w a) none.0)
      ∙ no_sets (space_of kind).attributes x.keyword (λ j. names xs s j.kind w a) none.1

  none_used : (a b : Symbol) → Uses xs s (space_of kind) no_range a b → ⊥
  none_used a b used = true≢false (sym used.giving ∙ not_giving used.item used.is_item a used.word)

  -- no set depends on another
  pub none_depends : (a b : Symbol) → DependsOn xs s (space_of kind) no_range a b → ⊥
  none_depends _ _ (at_once a b used) = none_used a b used
  none_depends _ _ (further a b c used on) = none_used a b used

  gives_nothing : (m : Family) (a t : Symbol) (x : Item) → Contains xs x → gives xs s (space_of kind) no_range m a t x ≡ false
  gives_nothing m a t x c = ap (λ b. is_enabled s x && b) (by_form (word_and_term x.args)) ∙ and_false (is_enabled s x)
    where
      by_form : (r : Option (ScopedWord × Term ScopedWord))
          → option_map_or (λ p. is_giving xs s (space_of kind) no_range a x p.0 && in_value xs s (space_of kind) no_range m p.1 t) r false ≡ false
      by_form None = refl
      by_form (Some p) = ap (λ b. b && in_value xs s (space_of kind) no_range m p.1 t) (not_giving x c a p.0)

  nothing_given : (a t : Symbol) → false ≡ is_given xs s (space_of kind) no_range empty a t
  unfolding is_given
  nothing_given a t = same_truth false (list_any (gives xs s (space_of kind) no_range empty a t) xs) (λ e. absurd cc) (λ e.
      let (x, c, g) = any_true (gives xs s (space_of kind) no_range empty a t) xs e in sym (gives_nothing empty a t x c) ∙ g)

  none_ranked : IsRanked xs s (space_of kind) no_range (λ a. 0)
  none_ranked a b used = absurd (none_used a b used)

  empty_solves : Solves xs s (space_of kind) no_range empty
  unfolding empty
  empty_solves a t d = nothing_given a t

  -- a word stands for what it names
  abbrev pub is_stood : ScopedWord → Symbol → Bool
  is_stood w t = holds xs s (space_of kind) no_range empty w t

  pub stands_plain : (w : ScopedWord) (t : Symbol) → StandsFor xs s kind w t ↔ ((is_stood w t ≡ true) × Declared xs s kind t)
  stands_plain w t = stands_is xs s kind (λ a. 0) none_ranked empty empty_solves w t

-- no alias is declared
pub no_alias : (xs : List Item) → HaveFlatKeywords xs → (s : OptSet) (a : Symbol) → Declared xs s kinds.TypeAlias a → ⊥
no_alias xs flat s a d = of_declaration d.declaration d.declares d.of_kind
  where
    of_declaration : (e : Declaration) → IsDeclaration xs s e → e.kind ≡ kinds.TypeAlias → ⊥
    of_declaration _ object k = let f : kinds.Role ≡ kinds.TypeAlias = k in cc
    of_declaration _ (by x e c on by_it) k =
        declares_no_alias x.keyword (flat x c) kinds.TypeAlias refl (subst (Contains (entry_of x.keyword).declares) k (of_own_kind x.space (entry_of x.keyword).declares x.args e by_it))

-- What a policy has of levels that has no statement of levels: nothing is wrong, it rests on nothing, and its table is empty.
use Rattle.std.proofs.Common.{◌≡◌, ◌&&◌, ℕ, Bool, true, false, List, [], ◌∷◌, refl, sym, ◌∙◌, ap, inl, inr, arith}
use Rattle.std.specs.Prelude.{Contains, None, Some}
use Rattle.std.proofs.lemmas.Bool.{true≢false}
use Rattle.std.proofs.lemmas.List.Elements.{All-nil}
use Rattle.cil_base.specs.Lists.{Lists, contains_here, contains_none}
use Rattle.cil_base.specs.Places.{get_contains, none_some, some_at, some_same}
use Rattle.cil_base.specs.Rising.{rising_nothing}
use Rattle.cil_faults.specs.declared.fault.Fault.{Fault}
use Rattle.cil_faults.specs.declared.spot.Spot.{Spot}
use Rattle.cil_syntax.specs.declared.kind.Keyword.{Keyword}
use Rattle.cil_syntax.specs.declared.kind.Keyword.TheVariants as keywords
use Rattle.cil_syntax.specs.declared.kind.Kind.{Kind}
use Rattle.cil_syntax.specs.declared.kind.Kind.TheVariants as kinds
use Rattle.cil_syntax.specs.Scopes.{ScopedWord}
use Rattle.cil_syntax.specs.Table.{entry_of}
use Rattle.cil_syntax.specs.Terms.{Leaf, Name, Form, Terms, nil, cons}
use Rattle.cil_macros.specs.Item.{Item, OptSet}
use Rattle.cil_names.specs.Declarations.{Declaration, Declared, IsDeclaration, Symbol, by, object}
use Rattle.cil_known.specs.Members.{space_of}
use Rattle.cil_known.specs.Says.{Says}
use Rattle.cil_known.specs.Spaces.{Sets, SpaceOf, names}
use Rattle.cil_known.proofs.MemberLemmas.{declared_is}
use Rattle.cil_ranges.specs.attrs.SetFaults.{DeclaresAt, SetFault, alias_cycle, alias_open, alias_twice, limit_of, many, set_cycle}
use Rattle.cil_mls.specs.declared.categories.Categories.{Categories}
use Rattle.cil_mls.specs.Bits.{AreWords}
use Rattle.cil_mls.specs.Names.{named_cmp}
use Rattle.cil_mls.specs.OrderFaults.{AreOver, OrderFault, Switches, alias_of_category, alias_of_sensitivity, categories_unordered, circular_set, many_categories, many_sensitivities, mls_twice, most_categories, most_sensitivities, sensitivities_unordered}
use Rattle.cil_mls.specs.Ordering.{IsBelow, IsTheOrder}
use Rattle.cil_mls.specs.Orders.{IsOrder}
use Rattle.cil_ranges.specs.levels_crate.Permitted.{ArePermitted}
use Rattle.cil_ranges.specs.levels_crate.Places.{IsInSpan}
use Rattle.cil_ranges.specs.levels_crate.Values.{AreValues}
use Rattle.cil_ranges.specs.Steps.{IsGround, LevelFault, no_range, said, two_ranges}
use Rattle.cil_level_rows.specs.Laws.{NothingIsWrong}
use Rattle.cil_level_rows.specs.NoLevels.{HasNone, empty_ground, empty_table, is_of_levels, no_values}
use Rattle.cil_level_rows.specs.Rows.{AreRangeRows, IsAliasRow, IsLevelTable, IsLevelTableOver}
use Rattle.cil_level_rows.specs.Steps.{LevelStep}
use Rattle.cil_level_rows.proofs.KeywordLemmas.{declares_level, is_level_kind, kind_declared, says_of_levels}
use Rattle.cil_level_rows.proofs.OneFaultLemmas.{by_ground}

both : (a b : Bool) → (a && b) ≡ true → (a ≡ true) × (b ≡ true)
both true b e = (refl, e)
both false b e = absurd (let f : false ≡ true = e in cc)

module _ (xs : List Item) (s : OptSet) (none : HasNone xs) where
  -- ---- statements

  not_there : (x : Item) → Contains xs x → is_of_levels x.keyword ≡ true → ⊥
  not_there x c is = true≢false (sym is ∙ none x c)

  not_said : (keyword : Keyword) (ts : Terms ScopedWord) → is_of_levels keyword ≡ true → Says xs s keyword ts → ⊥
  not_said keyword ts is says = not_there says.item says.is_item (ap is_of_levels says.is_keyword ∙ is)

  pub not_switched : (on : Bool) → Switches xs s on → ⊥
  not_switched on switches = not_said keywords.Mls _ refl switches.1

  -- ---- declarations

  module _ (kind : Kind) (is : is_level_kind kind ≡ true) where
    not_declared_at : (x : Item) (at : Spot) (name : List ℕ) → DeclaresAt xs s kind x at name → ⊥
    not_declared_at x at name d = not_there x d.is_item (declares_level x.keyword kind is d.of_kind)

    not_declaration : (d : Declaration) → IsDeclaration xs s d → d.kind ≡ kind → ⊥
    not_declaration d object same = true≢false (sym is ∙ ap is_level_kind (sym same))
    not_declaration q (by x d c on within) same =
        not_there x c (declares_level x.keyword d.kind (ap is_level_kind same ∙ is) (kind_declared x.space (entry_of x.keyword).declares x.args d within))

    pub not_declared : (t : Symbol) → Declared xs s kind t → ⊥
    not_declared t d = not_declaration d.declaration d.declares d.of_kind

    not_named : (w : ScopedWord) (t : Symbol) → names xs s kind w t ≡ true → ⊥
    unfolding names
    not_named w t e = not_declared t ((declared_is xs s kind t).0 (both _ _ (both _ _ e).0).1)

  -- ---- orders

  -- nothing is wrong with aliases
  module _ (which : SpaceOf) (aliases : (j : Sets) → which.aliases ≡ Some j → is_level_kind j.kind ≡ true) (attributes : which.attributes ≡ None) (few : limit_of which.item ≡ None) where
    no_set_fault : (f : Fault) → SetFault xs s which f → ⊥
    no_set_fault f (alias_open o) = not_declared_at o.sets.kind (aliases o.sets o.are_aliases) o.item o.at o.name o.declares
    no_set_fault f (alias_twice t) = not_named t.sets.kind (aliases t.sets t.are_aliases) t.says_first.alias_word t.alias t.says_first.names_alias
    no_set_fault f (alias_cycle c) = not_declared_at c.kind.kind (aliases c.kind c.are_sets) c.item c.at c.name c.declares
    no_set_fault f (set_cycle c) = none_some c.kind (sym attributes ∙ c.are_sets)
    no_set_fault f (many m) = none_some (m.limit, m.word) (sym few ∙ m.is_limit)

  module _ (kind : Kind) (order : Keyword) (is : is_level_kind kind ≡ true) where
    nothing_ordered : (row : List Symbol) → IsOrder (Declared xs s kind) (IsBelow xs s kind order) row → row ≡ []
    nothing_ordered [] o = refl
    nothing_ordered (t ∷ ts) o = absurd (not_declared kind is t ((o.items t).0 (contains_here t ts)))

    -- the order of nothing is the one order
    no_order : IsTheOrder xs s kind order []
    no_order = record {
      is_order = record {
        items = λ t. (λ c. absurd (contains_none t c), λ d. absurd (not_declared kind is t d));
        once = λ i j t at too. absurd (none_some t at);
        upwards = λ i j t u under at too. absurd (none_some t at);
      };
      only = nothing_ordered;
    }

  not_over : (kind : Kind) (most : ℕ) → is_level_kind kind ≡ true → AreOver xs s kind most → ⊥
  not_over kind most is over =
      let m = over.many in
      let (name, at) = some_at over.names 0 (omega (arith, m)) in
      let declared = (over.are_names.members name).0 (get_contains over.names 0 name at) in
      not_declared kind is declared.0 declared.1

  pub no_order_fault : (f : Fault) → OrderFault xs s f → ⊥
  no_order_fault f (alias_of_sensitivity a) = no_set_fault (space_of kinds.Sensitivity) (λ j e. ap (λ (k : Sets). is_level_kind k.kind) (sym (some_same _ j e))) refl refl f a
  no_order_fault f (alias_of_category a) = no_set_fault (space_of kinds.Category) (λ j e. ap (λ (k : Sets). is_level_kind k.kind) (sym (some_same _ j e))) refl refl f a
  no_order_fault f (circular_set c) = not_declared_at kinds.CategorySet refl c.item c.at c.name c.declares
  no_order_fault f (sensitivities_unordered u told) = u.1 [] (no_order kinds.Sensitivity keywords.SensitivityOrder refl)
  no_order_fault f (categories_unordered u told) = u.1 [] (no_order kinds.Category keywords.CategoryOrder refl)
  no_order_fault f (mls_twice on off told) = not_switched true on
  no_order_fault f (many_sensitivities over told) = not_over kinds.Sensitivity most_sensitivities refl over
  no_order_fault f (many_categories over told) = not_over kinds.Category most_categories refl over

  -- ---- the ground

  no_span : (ts : Terms ScopedWord) (c : ℕ) → IsInSpan xs s [] ts c → ⊥
  no_span nil c i = i
  no_span (cons a nil) c i = i
  no_span (cons (Name at x) (cons b rest)) c i = i
  no_span (cons (Form at op ts) (cons b rest)) c i = i
  no_span (cons (Leaf v) (cons (Name at x) rest)) c i = i
  no_span (cons (Leaf v) (cons (Form at op ts) rest)) c i = i
  no_span (cons (Leaf v) (cons (Leaf w) nil)) c i = none_some i.from.symbol i.from.at
  no_span (cons (Leaf v) (cons (Leaf w) (cons d rest))) c i = i

  -- nothing has a category
  are_no_values : AreValues xs s [] no_values
  are_no_values = record {
    words = λ w c. (λ e. absurd (true≢false (sym e)), λ h. absurd (elim h [ inl at ↦ none_some at.symbol at.at | inr set ↦ true≢false (sym set.has) ]));
    spans = λ ts c. (λ e. absurd (true≢false (sym e)), λ i. absurd (no_span ts c i));
    sets = λ a c. (λ e. absurd (true≢false (sym e)), λ g. absurd (not_declared_at kinds.CategorySet refl g.item g.at g.name g.declares));
  }

  pub is_empty_ground : IsGround xs s (empty_ground xs)
  is_empty_ground = record {
    items = refl;
    sensitivities = no_order kinds.Sensitivity keywords.SensitivityOrder refl;
    categories = no_order kinds.Category keywords.CategoryOrder refl;
    values = are_no_values;
    ranked = (λ a. 0, λ a b names_b. absurd (not_declared_at kinds.CategorySet refl names_b.item names_b.at names_b.name names_b.declares));
  }

  -- ---- levels

  pub no_level_fault : (f : Fault) → LevelFault s (empty_ground xs) f → ⊥
  no_level_fault f (said x c wrong) = not_there x c (says_of_levels x.keyword wrong.levels)
  no_level_fault f (two_ranges two) = not_there two.item two.gives.is_item (ap is_of_levels two.gives.gives)
  no_level_fault f (no_range without) = not_switched true without.on

  pub no_level_step : (f : Fault) → LevelStep xs s f → ⊥
  no_level_step f step = no_level_fault f (by_ground xs s (empty_ground xs) is_empty_ground f step)

  -- ---- the table

  no_aliases : (alias_kind kind : Kind) → is_level_kind alias_kind ≡ true → Lists named_cmp (IsAliasRow xs s alias_kind kind []) []
  no_aliases alias_kind kind is = record {
    rising = rising_nothing named_cmp;
    members = λ a. (λ c. absurd (contains_none a c), λ row. absurd (not_declared alias_kind is row.alias row.is_alias.an_alias));
  }

  are_no_permits : ArePermitted xs s [] [] no_values []
  are_no_permits = record { len = refl; each = λ n set at. absurd (none_some set at) }

  are_no_ranges : (users : List (List ℕ)) → AreRangeRows xs s (empty_ground xs) users []
  are_no_ranges users = record { off = λ off. refl; on = λ on. absurd (not_switched true on); each = λ n r at. absurd (none_some r at) }

  pub is_empty_over : (users : List (List ℕ)) → IsLevelTableOver xs s (empty_ground xs) users empty_table
  is_empty_over users = record {
    on = (λ e. absurd (true≢false (sym e)), λ on. absurd (not_switched true on));
    categories = refl;
    category_aliases = no_aliases kinds.CategoryAlias kinds.Category refl;
    sensitivities = refl;
    permitted = are_no_permits;
    words = All-nil (λ (p : Categories). AreWords p.words);
    sensitivity_aliases = no_aliases kinds.SensitivityAlias kinds.Sensitivity refl;
    ranges = are_no_ranges users;
  }

  pub is_empty_table : (users : List (List ℕ)) → IsLevelTable xs s users empty_table
  is_empty_table users = record { ground = empty_ground xs; is_ground = is_empty_ground; over = is_empty_over users }

-- ---- all of it

pub nothing_is_wrong : NothingIsWrong
nothing_is_wrong xs s none f (inl order) = no_order_fault xs s none f order
nothing_is_wrong xs s none f (inr step) = no_level_step xs s none f step

-- The table of levels, from its parts.
use Rattle.std.specs.Prelude.{Some, slice_get}
use Rattle.std.proofs.Common.{◌≡◌, ℕ, suc, List, [], ◌∷◌, get_or, length, map, refl, sym, ◌∙◌, ap, subst, arith}
use Rattle.cil_base.specs.Lists.{Lists}
use Rattle.cil_base.specs.Places.{get_so}
use Rattle.cil_syntax.specs.declared.kind.Keyword.{Keyword}
use Rattle.cil_syntax.specs.declared.kind.Keyword.TheVariants as keywords
use Rattle.cil_syntax.specs.declared.kind.Kind.{Kind}
use Rattle.cil_syntax.specs.declared.kind.Kind.TheVariants as kinds
use Rattle.cil_syntax.specs.declared.kind.Sign.TheVariants as signs
use Rattle.cil_syntax.specs.Kinds.{kind_number}
use Rattle.cil_macros.specs.Item.{Item, OptSet}
use Rattle.cil_names.specs.Declarations.{Symbol, name_of}
use Rattle.cil_known.specs.declared.known.Known.{Known}
use Rattle.cil_known.specs.declared.numbers.Sections.{Sections}
use Rattle.cil_known.specs.Known.{IsKnown, IsNumbered, enabled_in}
use Rattle.cil_known.specs.Numbers.{AreApart, names_of}
use Rattle.cil_mls.specs.declared.in_order.Orders.{Orders}
use Rattle.cil_mls.specs.declared.level.Range.{Range}
use Rattle.cil_mls.specs.Names.{named_cmp}
use Rattle.cil_mls.specs.OrderFaults.{AreOrders}
use Rattle.cil_mls.specs.Ordering.{IsNumberedOrder, IsTheOrder}
use Rattle.cil_labels.specs.Index.{HasIndex}
use Rattle.cil_ranges.specs.levels_crate.Permitted.{ArePermitted}
use Rattle.cil_ranges.specs.declared.levels.Levels.{Levels}
use Rattle.cil_ranges.specs.Levels.{Ground}
use Rattle.cil_ranges.specs.Steps.{AreLevels, IsGround}
use Rattle.cil_level_rows.specs.declared.rows.AliasRows.{AliasRows}
use Rattle.cil_level_rows.specs.declared.rows.NameRows.{NameRows}
use Rattle.cil_level_rows.specs.KeptRanges.{AreKeptWhere}
use Rattle.cil_level_rows.specs.Parts.{AreAliasRows, AreAllWords, AreNamesInOrder}
use Rattle.cil_level_rows.specs.Rows.{IsAliasRow, IsLevelTableOver}
use Rattle.cil_level_rows.proofs.ApartLemmas.{index_of_row, kinds_apart}
use Rattle.cil_level_rows.proofs.KeptLemmas.{range_rows}

-- the names with the numbers of an order are those of its items
named_row : (names : List (List ℕ)) (numbers : List ℕ) (row : List Symbol) → length numbers ≡ length row
    → ((i n : ℕ) (t : Symbol) → slice_get numbers i ≡ Some n → slice_get row i ≡ Some t → IsNumbered names t n) → map (λ n. get_or names n []) numbers ≡ map name_of row
named_row names [] [] len each = refl
named_row names [] (t ∷ ts) len each = absurd (omega (arith, len))
named_row names (n ∷ ns) [] len each = absurd (omega (arith, len))
named_row names (n ∷ ns) (t ∷ ts) len each =
    let head : get_or names n [] ≡ name_of t = get_so names n (name_of t) [] (each 0 n t refl refl) in
    let tail = named_row names ns ts (omega (arith, len)) (λ i m u a b. each (suc i) m u a b) in
    λ i. head i ∷ tail i

-- an order by numbers is that of the ground
one_row : (xs : List Item) (s : OptSet) (kind : Kind) (keyword : Keyword) (names : List (List ℕ)) (numbers : List ℕ) (order : IsNumberedOrder xs s kind keyword names numbers) (row : List Symbol) → IsTheOrder xs s kind keyword row → order.row ≡ row
one_row xs s kind keyword names numbers order row is = is.only order.row order.is_order.is_order

module _ (k : Known) (xs : List Item) (sections : Sections) (known : IsKnown k xs (names_of sections)) (apart : AreApart k.lookup.names.now (enabled_in k) k.numbers.now)
    (orders : Orders) (are : AreOrders xs (enabled_in k) sections.sensitivities.items sections.categories.items orders) (levels : Levels) where
  pub table_over : (g : Ground) → IsGround xs (enabled_in k) g → AreLevels k g levels → (names : NameRows) → AreNamesInOrder sections orders names
      → (aliases : AliasRows) → AreAliasRows xs (enabled_in k) are.of_sensitivities.row are.of_categories.row aliases → AreAllWords levels.permitted.items
      → (users : List Range) → AreKeptWhere k levels.users.items orders.are_on (length sections.users.items) users → IsLevelTableOver xs (enabled_in k) g sections.users.items (record {
        are_on = orders.are_on;
        categories = names.categories.items;
        category_aliases = aliases.categories.items;
        sensitivities = names.sensitivities.items;
        permitted = levels.permitted.items;
        sensitivity_aliases = aliases.sensitivities.items;
        users = users;
      })
  table_over g is lv names in_order aliases listed words users kept =
      let low = one_row xs (enabled_in k) kinds.Sensitivity keywords.SensitivityOrder sections.sensitivities.items orders.sensitivities.items are.of_sensitivities g.sensitivities is.sensitivities in
      let cats = one_row xs (enabled_in k) kinds.Category keywords.CategoryOrder sections.categories.items orders.categories.items are.of_categories g.categories is.categories in
      record {
        on = are.on;
        categories =
            in_order.of_categories ∙ named_row sections.categories.items orders.categories.items are.of_categories.row are.of_categories.len are.of_categories.each
            ∙ ap (map name_of) cats;
        category_aliases = subst (λ row. Lists named_cmp (IsAliasRow xs (enabled_in k) kinds.CategoryAlias kinds.Category row) aliases.categories.items) cats listed.of_categories;
        sensitivities =
            in_order.of_sensitivities ∙ named_row sections.sensitivities.items orders.sensitivities.items are.of_sensitivities.row are.of_sensitivities.len are.of_sensitivities.each
            ∙ ap (map name_of) low;
        permitted = subst (λ ys. ArePermitted ys (enabled_in k) g.sensitivities g.categories g.values levels.permitted.items) is.items lv.permitted;
        words = words;
        sensitivity_aliases = subst (λ row. Lists named_cmp (IsAliasRow xs (enabled_in k) kinds.SensitivityAlias kinds.Sensitivity row) aliases.sensitivities.items) low listed.of_sensitivities;
        ranges = range_rows k xs (names_of sections) known apart g levels.users.items lv.users sections.users.items orders.are_on users refl are.on kept;
      }

  -- each name that can be written stands for one place
  pub names_apart : (names : NameRows) → AreNamesInOrder sections orders names → (aliases : AliasRows) → AreAliasRows xs (enabled_in k) are.of_sensitivities.row are.of_categories.row aliases
      → HasIndex 256 names.sensitivities.items aliases.sensitivities.items × HasIndex 1024 names.categories.items aliases.categories.items
  names_apart names in_order aliases listed = (
    subst (λ l. HasIndex 256 l aliases.sensitivities.items)
        (sym (in_order.of_sensitivities ∙ named_row sections.sensitivities.items orders.sensitivities.items are.of_sensitivities.row are.of_sensitivities.len are.of_sensitivities.each))
        (index_of_row xs (enabled_in k) kinds.Sensitivity kinds.SensitivityAlias are.of_sensitivities.row are.of_sensitivities.is_order.is_order.once (λ x c. (are.of_sensitivities.is_order.is_order.items x).0 c)
        (kinds_apart k xs (names_of sections) known kinds.Sensitivity kinds.SensitivityAlias signs.Sensitivities refl refl (λ e. let n : 14 ≡ 15 = ap kind_number e in omega (arith, n))) aliases.sensitivities.items
        listed.of_sensitivities 256 listed.few_sensitivities),
    subst (λ l. HasIndex 1024 l aliases.categories.items)
        (sym (in_order.of_categories ∙ named_row sections.categories.items orders.categories.items are.of_categories.row are.of_categories.len are.of_categories.each))
        (index_of_row xs (enabled_in k) kinds.Category kinds.CategoryAlias are.of_categories.row are.of_categories.is_order.is_order.once (λ x c. (are.of_categories.is_order.is_order.items x).0 c)
        (kinds_apart k xs (names_of sections) known kinds.Category kinds.CategoryAlias signs.Categories refl refl (λ e. let n : 16 ≡ 17 = ap kind_number e in omega (arith, n))) aliases.categories.items
        listed.of_categories 1024 listed.few_categories),
  )

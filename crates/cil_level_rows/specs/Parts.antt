-- What the table of levels is put together from. No other crate needs these words.
use Rattle.std.specs.Prelude.{◌≡◌, ◌≤◌, List, [], All, get_or, length, map}
use Rattle.cil_base.specs.Lists.{Lists}
use Rattle.cil_syntax.specs.declared.kind.Kind.TheVariants as kinds
use Rattle.cil_macros.specs.Item.{Item, OptSet}
use Rattle.cil_names.specs.Declarations.{Symbol}
use Rattle.cil_known.specs.declared.numbers.Sections.{Sections}
use Rattle.cil_mls.specs.declared.categories.Categories.{Categories}
use Rattle.cil_mls.specs.declared.in_order.Orders.{Orders}
use Rattle.cil_mls.specs.Bits.{AreWords}
use Rattle.cil_mls.specs.Names.{named_cmp}
use Rattle.cil_level_rows.specs.declared.rows.AliasRows.{AliasRows}
use Rattle.cil_level_rows.specs.declared.rows.NameRows.{NameRows}
use Rattle.cil_level_rows.specs.Rows.{IsAliasRow}

-- each set is kept in words
abbrev pub AreAllWords : List Categories → Type 0
AreAllWords sets = All (λ (p : Categories). AreWords p.words) sets

-- the names of the sensitivities and of the categories, by the numbers that these orders have
pub record AreNamesInOrder (sections : Sections) (orders : Orders) (names : NameRows) : Type 0 where
  pub of_sensitivities : names.sensitivities.items ≡ map (λ n. get_or sections.sensitivities.items n []) orders.sensitivities.items
  pub of_categories : names.categories.items ≡ map (λ n. get_or sections.categories.items n []) orders.categories.items

-- their aliases; of the items there are no more than there may be
pub record AreAliasRows (xs : List Item) (s : OptSet) (sensitivities categories : List Symbol) (aliases : AliasRows) : Type 0 where
  pub of_sensitivities : Lists named_cmp (IsAliasRow xs s kinds.SensitivityAlias kinds.Sensitivity sensitivities) aliases.sensitivities.items
  pub of_categories : Lists named_cmp (IsAliasRow xs s kinds.CategoryAlias kinds.Category categories) aliases.categories.items
  pub few_sensitivities : length sensitivities ≤ 256
  pub few_categories : length categories ≤ 1024

use Rattle.std.specs.Prelude.{List, Some, slice_get, ℕ}
use Rattle.std.proofs.Common.{◌≡◌, ◌∙◌, ap, arith, get_or, length, refl, subst, sym}
use Rattle.cil_base.specs.Places.{is_there}
use Rattle.cil_syntax.specs.declared.kind.Keyword.TheVariants as keywords
use Rattle.cil_syntax.specs.declared.kind.Kind.TheVariants as kinds
use Rattle.cil_macros.specs.Items.{items_in}
use Rattle.cil_known.specs.Numbers.{names_of}
use Rattle.cil_ranges.specs.levels_crate.Begun.{AreOnce}
use Rattle.cil_ranges.proofs.levels_crate_lemmas.PlaceLemmas.{are_few, are_once, number_within}
use Rattle.cil_level_rows.specs.AliasEntries.{ListsAliases}
use Rattle.cil_level_rows.proofs.AliasLemmas.{or_so, rows_listed}
use Rattle.cil_level_rows.proofs.aliases.sensitivity_aliases.Goals as goal

pub aliases_of-requires-clause-ordered : goal.aliases_of-requires-clause-ordered
aliases_of-requires-clause-ordered c = c.requires.known.entries.ordered

pub aliases_of-requires-clause-within : goal.aliases_of-requires-clause-within
aliases_of-requires-clause-within c = λ i d below.
    let order = c.as_slice-order.result.now in
    let numbers = c.args.orders.now.sensitivities.items in
    let at : slice_get numbers i ≡ Some (get_or order i d) = ap (λ l. slice_get l i) (sym c.as_slice-order.ensures.value) ∙ is_there order i d below in
    let low =
    number_within c.args.known.now (items_in c.args.instances.now) (names_of c.args.sections.now) kinds.Sensitivity c.args.sections.now.sensitivities.items c.in_ok-standing.standing.items c.in_ok-standing.ensures.numbered refl c.requires.apart
    keywords.SensitivityOrder numbers c.requires.orders.of_sensitivities i (get_or order i d) at in
    omega (arith, low)

pub aliases_of-requires-clause-once : goal.aliases_of-requires-clause-once
aliases_of-requires-clause-once c =
    subst AreOnce (sym c.as_slice-order.ensures.value)
    (are_once c.args.known.now (items_in c.args.instances.now) (names_of c.args.sections.now) kinds.Sensitivity c.args.sections.now.sensitivities.items c.in_ok-standing.standing.items c.in_ok-standing.ensures.numbered refl c.requires.apart
    keywords.SensitivityOrder c.args.orders.now.sensitivities.items c.requires.orders.of_sensitivities)

pub aliases_of-requires-clause-few : goal.aliases_of-requires-clause-few
aliases_of-requires-clause-few c =
    let few =
    are_few c.args.known.now (items_in c.args.instances.now) (names_of c.args.sections.now) kinds.Sensitivity c.args.sections.now.sensitivities.items c.in_ok-standing.standing.items c.in_ok-standing.ensures.numbered refl c.requires.apart
    keywords.SensitivityOrder c.args.orders.now.sensitivities.items c.requires.orders.of_sensitivities in
    let most = c.requires.orders.few_sensitivities in
    let len = ap length c.as_slice-order.ensures.value in
    omega (arith, few, most, len)

pub returns-clause-few : goal.returns-clause-few
returns-clause-few c =
    let few =
    are_few c.args.known.now (items_in c.args.instances.now) (names_of c.args.sections.now) kinds.Sensitivity c.args.sections.now.sensitivities.items c.in_ok-standing.standing.items c.in_ok-standing.ensures.numbered refl c.requires.apart
    keywords.SensitivityOrder c.args.orders.now.sensitivities.items c.requires.orders.of_sensitivities in
    let most = c.requires.orders.few_sensitivities in
    omega (arith, few, most)

pub returns-clause-aliases : goal.returns-clause-aliases
returns-clause-aliases c = λ o.
    let k = c.args.known.now in
    let standing = c.in_ok-standing.standing.items in
    let numbers = c.args.orders.now.sensitivities.items in
    let aliases = c.in_ok-aliases.aliases.items in
    let lists : ListsAliases k kinds.SensitivityAlias standing numbers aliases =
    subst (λ (l : List ℕ). ListsAliases k kinds.SensitivityAlias standing l aliases) c.as_slice-order.ensures.value
    (subst (λ (l : List (List ℕ)). ListsAliases k kinds.SensitivityAlias l c.as_slice-order.result.now aliases) c.as_slice.ensures.value c.in_ok-aliases.ensures) in
    rows_listed k (items_in c.args.instances.now) (names_of c.args.sections.now) kinds.Sensitivity c.args.sections.now.sensitivities.items standing c.in_ok-standing.ensures refl c.requires.apart
    keywords.SensitivityOrder numbers o.of_sensitivities lists.places lists.inverse kinds.SensitivityAlias (λ e h. or_so _ _ h) aliases lists.are lists.rising

use Rattle.std.proofs.Common.{◌≡◌, List, ℕ, arith, ap, length, refl, subst, sym, ◌∙◌}
use Rattle.cil_syntax.specs.declared.kind.Keyword.TheVariants as keywords
use Rattle.cil_syntax.specs.declared.kind.Kind.TheVariants as kinds
use Rattle.cil_macros.specs.Items.{items_in}
use Rattle.cil_known.specs.Known.{enabled_in}
use Rattle.cil_known.specs.Numbers.{names_of}
use Rattle.cil_mls.specs.OrderFaults.{circular_set}
use Rattle.cil_mls.specs.Ordering.{IsNumberedOrder}
use Rattle.cil_levels.specs.Begun.{AreInverse}
use Rattle.cil_levels.specs.Held.{HoldCategories}
use Rattle.cil_levels.specs.Made.{AreSetsMade}
use Rattle.cil_levels.proofs.HoldingLemmas.{are_held}
use Rattle.cil_levels.proofs.PlaceLemmas.{holds_stands, stands_holds}
use Rattle.cil_levels.proofs.values.category_values.Goals as goal

pub first_held-requires-clause-order : goal.first_held-requires-clause-order
first_held-requires-clause-order c =
    subst (IsNumberedOrder (items_in c.args.instances.now) (enabled_in c.args.known.now) kinds.Category keywords.CategoryOrder c.args.sections.now.categories.items) (sym c.as_slice-order.ensures.value) c.requires.orders.of_categories

pub first_held-requires-clause-few : goal.first_held-requires-clause-few
first_held-requires-clause-few c = c.requires.orders.few_categories

pub with_sets-requires-clause-none : goal.with_sets-requires-clause-none
with_sets-requires-clause-none c = λ f h. c.requires.none f (circular_set h)

pub returns : goal.returns
returns c = λ o.
    let k = c.args.known.now in
    let i = c.args.instances.now in
    let xs = items_in i in
    let sections = names_of c.args.sections.now in
    let names = c.args.sections.now.categories.items in
    let numbers = c.args.orders.now.categories.items in
    let begun = c.in_ok-first.ensures.first in
    let inverse : AreInverse numbers begun.places = subst (λ (l : List ℕ). AreInverse l begun.places) c.as_slice-order.ensures.value begun.inverse in
    let law = c.means_what_it_names.ensures in
    let order = o.of_categories in
    let hold : HoldCategories k xs order.row c.in_ok-first.first.items = λ w n. (
      stands_holds k xs sections kinds.Category names begun.standing begun.numbered refl c.requires.apart keywords.CategoryOrder numbers order begun.places inverse c.in_ok-first.first.items begun.begun c.requires.known law w n,
      holds_stands k xs sections kinds.Category names begun.standing begun.numbered refl c.requires.apart keywords.CategoryOrder numbers order begun.places inverse c.in_ok-first.first.items begun.begun c.requires.known law w n,
    ) in
    let len : length c.as_slice-order.result.now ≡ length order.row = ap length c.as_slice-order.ensures.value ∙ order.len in
    let made : AreSetsMade k i (length order.row) c.in_ok-first.first.items c.in_ok-helds.helds.items = subst (λ n. AreSetsMade k i n c.in_ok-first.first.items c.in_ok-helds.helds.items) len c.in_ok-helds.ensures.made in
    let count = c.in_ok-first.ensures.count in
    are_held k i sections c.requires.known law made.edges made.lead order.row (omega (arith, count, len)) begun.standing begun.places c.in_ok-first.first.items begun.begun hold made.all made.defined c.in_ok-helds.helds.items made.made made.ranks made.fall
    c.in_ok-helds.ensures.few

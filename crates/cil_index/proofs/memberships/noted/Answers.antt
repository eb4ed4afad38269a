use Rattle.std.proofs.Common.{List, [], arith, length, refl, subst, ℕ, ◌<◌, ◌∙◌}
use Rattle.std.proofs.lemmas.List.{get_or_default}
use Rattle.cil_index.specs.Memberships.{AreFilters}
use Rattle.cil_index.proofs.MembershipLemmas.{at_most_next, none_noted, noted_below, noted_more}
use Rattle.cil_index.proofs.memberships.noted.Goals as goal

pub loop-place-init : goal.loop-place-init
loop-place-init c = none_noted c.args.ones c.args.several.now _ c.new-lists.ensures.items

pub add_set-requires : goal.add_set-requires
add_set-requires c = at_most_next c.args.ones c.loop-place.place _ c.loop-place.lists.items c.in_ok-number.ensures c.loop-place.invariant.below

pub loop-place-preserved : goal.loop-place-preserved
loop-place-preserved c =
    let below = c.loop-place-test.true in
    let within = c.before_large-small.ensures in
    let there : c.loop-place.place < length c.args.several.now = omega (arith, below, within) in
    noted_more c.args.ones c.args.several.now c.loop-place.place c.index-several-place.result _ c.loop-place.lists.items c.add_set.new.lists.items
    (c.index-several-place.is ∙ get_or_default c.args.several.now c.loop-place.place _ [] there) c.in_ok-number.ensures c.loop-place.invariant c.in_ok-add_set.ensures

pub returns : goal.returns
returns c =
    noted_below c.args.ones c.args.several.now c.loop-place.place c.before_large-small.result _ (let over = c.loop-place-test.false in let within = c.loop-place.auto.place-end in omega (arith, over, within)) refl refl c.loop-place.invariant
    (subst (λ (l : List (List ℕ)). AreFilters l c.in_ok-filters.filters.items) c.as_slice.ensures.value c.in_ok-filters.ensures)

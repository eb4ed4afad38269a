use Rattle.cil_conditions.proofs.PlaceLemmas.{false_there, place_more, true_there}
use Rattle.cil_conditions.proofs.branches.places_of.Goals as goal

pub place_of-requires-clause-when_true : goal.place_of-requires-clause-when_true
place_of-requires-clause-when_true c = true_there c.args.rows.now c.args.found.now c.loop-one.one-index c.one-item.result _ c.requires c.loop-one-test.true c.one-item.is

pub place_of-requires-clause-when_false : goal.place_of-requires-clause-when_false
place_of-requires-clause-when_false c = false_there c.args.rows.now c.args.found.now c.loop-one.one-index c.one-item.result _ c.requires c.loop-one-test.true c.one-item.is

pub loop-one-preserved : goal.loop-one-preserved
loop-one-preserved c =
    place_more c.args.rows.now c.args.found.now c.loop-one.one-index c.one-item.result _ c.loop-one.places.items _ c.in_ok-place.place c.loop-one-test.true c.one-item.is c.loop-one.invariant
    c.in_ok-place.ensures c.in_ok-push.ensures.items

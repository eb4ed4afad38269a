use Rattle.cil_index.proofs.IndexLemmas.{first_all, first_more, first_none}
use Rattle.cil_index.proofs.index.unsorted.Goals as goal

pub loop-place-init : goal.loop-place-init
loop-place-init c = first_none c.args.sets.now c.args.records.now _ c.in_ok-entries.ensures.items

pub loop-place-preserved : goal.loop-place-preserved
loop-place-preserved c =
    first_more c.args.sets.now c.args.records.now c.loop-place.place _ _ _ c.loop-place-test.true c.loop-place.invariant c.in_ok-entry_at.ensures c.in_ok-push.ensures.items

pub returns : goal.returns
returns c = first_all c.args.sets.now c.args.records.now c.loop-place.place _ c.loop-place-test.false c.loop-place.invariant

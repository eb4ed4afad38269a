use Rattle.std.proofs.Common.{arith}
use Rattle.cil_base.specs.Places.{there_as}
use Rattle.cil_labels.specs.Rows.{IsNameRow}
use Rattle.cil_labels.proofs.RowLemmas.{all_below, name_more}
use Rattle.cil_labels.proofs.index.push_names.Goals as goal

pub loop-place-preserved : goal.loop-place-preserved
loop-place-preserved c =
    name_more c.args.names.now c.loop-place.place c.index-names-place.result c.as_slice.result.now c.args.rows.now.items c.loop-place.rows.items _
    (there_as c.args.names.now c.loop-place.place c.index-names-place.result c.loop-place-test.true c.index-names-place.is) c.as_slice.ensures c.loop-place.invariant c.in_ok-push_row.ensures

pub returns : goal.returns
returns c =
    let over = c.loop-place-test.false in
    let end = c.loop-place.auto.place-end in
    all_below (IsNameRow c.args.names.now) c.loop-place.place _ _ _ (omega (arith, over, end)) c.loop-place.invariant

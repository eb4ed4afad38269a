use Rattle.std.proofs.Common.{arith}
use Rattle.cil_locate.proofs.CountLemmas.{all_counted, none_counted, one_next, one_same}
use Rattle.cil_locate.proofs.found.files_in.Goals.{then-told-last, else-told-last}
use Rattle.cil_locate.proofs.found.files_in.Goals as goal

pub loop-told-init : goal.loop-told-init
loop-told-init c = (omega arith, none_counted)

pub loop-told-preserved : goal.loop-told-preserved
loop-told-preserved c =
    let h = c.loop-told.invariant.0 in
    elim c.if-told-last.branch [
      | then-told-last w ↦ (
        (let e = w.count-is in omega (arith, h, e)),
        one_next _ c.requires _ _ c.loop-told-test.true c.loop-told.last c.loop-told.count _ _ c.loop-told.invariant.1 w.if-told-last.true w.last-is w.count-is,
      )
      | else-told-last w ↦ (
        (let e = w.count-is in omega (arith, h, e)),
        one_same _ c.requires _ _ c.loop-told-test.true c.loop-told.last c.loop-told.count _ _ c.loop-told.invariant.1 w.if-told-last.false w.last-is w.count-is,
      )
    ]

pub returns : goal.returns
returns c = all_counted c.args.order.now c.loop-told.told-index _ _ c.loop-told-test.false c.loop-told.invariant.1

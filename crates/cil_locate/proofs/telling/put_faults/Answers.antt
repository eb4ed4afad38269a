use Rattle.std.proofs.Common.{[]}
use Rattle.cil_locate.specs.Located.{told_lines}
use Rattle.cil_server.proofs.StreamLemmas.{items_all, items_more, items_none, tells_none}
use Rattle.cil_locate.proofs.telling.put_faults.Goals as goal

pub loop-told-init : goal.loop-told-init
loop-told-init g c = (items_none (told_lines c.args.files.now c.args.faults.now) [] c.args.order.now _ _ (tells_none _), c.start-last.ensures c.args.files.now)

pub loop-told-preserved : goal.loop-told-preserved
loop-told-preserved g c = (
  items_more (told_lines c.args.files.now c.args.faults.now) [] c.args.order.now _ _ _ c.loop-told.told-index _ c.loop-told-test.true c.loop-told.invariant.0
      c.put_told-last.ensures.told,
  c.put_told-last.ensures.last,
)

pub returns : goal.returns
returns g c =
    items_all (told_lines c.args.files.now c.args.faults.now) [] c.args.order.now _ _ c.loop-told.told-index c.loop-told-test.false c.loop-told.invariant.0

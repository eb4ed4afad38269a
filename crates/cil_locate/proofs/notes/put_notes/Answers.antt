use Rattle.std.proofs.Common.{[]}
use Rattle.cil_locate.specs.Located.{note_at}
use Rattle.cil_server.proofs.StreamLemmas.{items_all, items_more, items_none, tells_none}
use Rattle.cil_locate.proofs.notes.put_notes.Goals as goal

pub loop-told-init : goal.loop-told-init
loop-told-init g c = (items_none (note_at c.args.files.now c.args.lines.now) [] c.args.order.now _ _ (tells_none _), c.start-last.ensures c.args.files.now)

pub loop-told-preserved : goal.loop-told-preserved
loop-told-preserved g c = (
  items_more (note_at c.args.files.now c.args.lines.now) [] c.args.order.now _ _ _ c.loop-told.told-index _ c.loop-told-test.true c.loop-told.invariant.0
      c.put_one-last.ensures.told,
  c.put_one-last.ensures.last,
)

pub returns : goal.returns
returns g c =
    items_all (note_at c.args.files.now c.args.lines.now) [] c.args.order.now _ _ c.loop-told.told-index c.loop-told-test.false c.loop-told.invariant.0

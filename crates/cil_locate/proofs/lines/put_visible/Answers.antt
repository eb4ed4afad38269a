use Rattle.cil_locate.proofs.LineLemmas.{all_shown, more_shown, none_shown}
use Rattle.cil_locate.proofs.lines.put_visible.Goals as goal

pub loop-byte-init : goal.loop-byte-init
loop-byte-init g c = none_shown c.args.output.now c.args.bytes.now

pub loop-byte-preserved : goal.loop-byte-preserved
loop-byte-preserved g c =
    more_shown _ _ _ c.args.bytes.now c.loop-byte.byte-index _ c.loop-byte-test.true c.visible_byte.ensures c.loop-byte.invariant c.put.ensures

pub returns : goal.returns
returns g c = all_shown _ _ c.args.bytes.now c.loop-byte.byte-index c.loop-byte-test.false c.loop-byte.invariant

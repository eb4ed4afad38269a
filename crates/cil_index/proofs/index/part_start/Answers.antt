use Rattle.std.proofs.Common.{arith}
use Rattle.cil_index.proofs.StartLemmas.{before_more, begins_here}
use Rattle.cil_index.proofs.index.part_start.Goals as goal

pub loop-at-init : goal.loop-at-init
loop-at-init c = (c.requires.within, c.requires.before)

pub loop-at-preserved : goal.loop-at-preserved
loop-at-preserved c =
    let within = c.loop-at-test.true in
    let less = c.if-entry-part.false in
    (omega (arith, within), before_more c.args.entries.now c.args.part c.loop-at.at _ within less c.loop-at.invariant.1)

pub returns-then-entry-part : goal.returns-then-entry-part
returns-then-entry-part c = begins_here c.args.entries.now c.args.part c.loop-at.at _ c.requires.sorted c.loop-at-test.true c.if-entry-part.true c.loop-at.invariant.1

use Rattle.std.proofs.Common.{arith, ◌-◌, ◌/◌}
use Rattle.cil_index.proofs.RunLemmas.{searched_first, searched_half}
use Rattle.cil_index.proofs.search.halved.Goals as goal

pub loop-size-init : goal.loop-size-init
loop-size-init c =
    let less = c.if-end-start.false in
    searched_first c.args.aims.now.items c.args.start c.args.end c.args.aim less (c.args.end - c.args.start) (omega (arith, less))

pub loop-size-preserved : goal.loop-size-preserved
loop-size-preserved c =
    let some = c.loop-size-test.true in
    searched_half c.args.aims.now.items c.args.start c.args.end c.args.aim c.loop-size.low c.loop-size.size (c.loop-size.size / 2) c.later-low.result (c.loop-size.size - c.loop-size.size / 2)
    c.requires.rising c.loop-size.invariant (omega (arith, some)) (omega (arith, some)) (omega (arith, some)) c.later-low.ensures

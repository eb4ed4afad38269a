use Rattle.cil_macros.proofs.WalkLemmas.{one_called}
use Rattle.cil_macros.proofs.walk.push_called.Goals as goal

pub loop-number-preserved : goal.loop-number-preserved
loop-number-preserved c =
    one_called c.args.numbers.now c.loop-number.number-index c.args.opener c.args.body c.args.called.now.items c.loop-number.called.items c.push.new.self.items
    c.loop-number-test.true c.loop-number.invariant c.in_ok-push.ensures.items

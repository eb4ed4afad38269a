use Rattle.cil_macros.proofs.ScopeLemmas.{added_one}
use Rattle.cil_macros.proofs.body_scope.add_all.Goals as goal

pub loop-number-preserved : goal.loop-number-preserved
loop-number-preserved c =
    added_one c.args.numbers.now c.loop-number.number-index c.args.scope.now c.loop-number.scope c.add.new.self c.loop-number-test.true c.loop-number.invariant
    c.in_ok-add.ensures

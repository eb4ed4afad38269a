use Rattle.std.proofs.Common.{arith}
use Rattle.cil_name_tests.proofs.UpToLemmas.{all_up_to, not_up_to, one_up_to}
use Rattle.cil_name_tests.proofs.made_names.are_numbers.Goals as goal

pub loop-number-init : goal.loop-number-init
loop-number-init c = λ k d h. omega (arith, h)

pub loop-number-preserved : goal.loop-number-preserved
loop-number-preserved c = one_up_to c.args.numbers.now _ c.loop-number.number-index c.loop-number-test.true c.if-number-most.false c.loop-number.invariant

pub returns-then-number-most : goal.returns-then-number-most
returns-then-number-most c = not_up_to c.args.numbers.now _ _ c.len-most.ensures.count c.loop-number.number-index c.loop-number-test.true c.if-number-most.true

pub returns : goal.returns
returns c = all_up_to c.args.numbers.now _ _ c.len-most.ensures.count c.loop-number.number-index c.loop-number-test.false c.loop-number.invariant

use Rattle.std.specs.Ordering.{nat_cmp}
use Rattle.std.proofs.lemmas.Cmp.{nat_cmp_total}
use Rattle.cil_format.proofs.Growing.{all_of, none_of, one_more}
use Rattle.cil_format.proofs.Rises.{sorted}
use Rattle.cil_format.proofs.numbers.numbers_of.Goals as goal

pub loop-number-init : goal.loop-number-init
loop-number-init c = none_of nat_cmp c.new-numbers.result c.new-numbers.ensures

pub loop-number-preserved : goal.loop-number-preserved
loop-number-preserved c =
    one_more nat_cmp c.args.rising.now c.loop-number.number-index 0 c.loop-number.numbers c.add.new.self c.loop-number-test.true c.loop-number.invariant c.in_ok-add.ensures.added

pub returns : goal.returns
returns c =
    all_of nat_cmp nat_cmp_total c.args.rising.now c.loop-number.number-index c.loop-number.numbers (sorted c.args.rising.now c.requires) c.loop-number-test.false c.loop-number.invariant

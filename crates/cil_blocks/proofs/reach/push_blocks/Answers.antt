use Rattle.std.proofs.Common.{get_or, refl}
use Rattle.std.specs.Prelude.{Some}
use Rattle.cil_base.specs.MadeLists.{all_mapped, one_mapped}
use Rattle.cil_blocks.proofs.reach.push_blocks.Goals as goal

pub loop-number-preserved : goal.loop-number-preserved
loop-number-preserved c =
    one_mapped Some c.args.numbers.now c.loop-number.number-index (get_or c.args.numbers.now c.loop-number.number-index 0) 0 c.args.handed.now.items c.loop-number.handed.items
    c.push.new.self.items c.loop-number-test.true refl c.loop-number.invariant c.in_ok-push.ensures.items

pub returns : goal.returns
returns c = all_mapped Some c.args.numbers.now c.loop-number.number-index c.args.handed.now.items c.loop-number.handed.items c.loop-number-test.false c.loop-number.invariant

use Rattle.std.proofs.Common.{arith}
use Rattle.cil_macros.specs.Items.{said_by}
use Rattle.cil_macros.proofs.PutLemmas.{all_in, one_in}
use Rattle.cil_macros.proofs.list_values.Caller.say.Goals as goal

pub loop-part-preserved : goal.loop-part-preserved
loop-part-preserved c =
    let call = c.args.self.now in
    one_in said_by call.scene.now call.at c.args.asked.now c.args.parts.now.items c.loop-part.part-index c.loop-part.parts.items c.say_one.new.parts.items c.part-item.result c.loop-part-test.true
    c.part-item.is c.in_ok-say_one.ensures c.loop-part.invariant

pub returns : goal.returns
returns c =
    let call = c.args.self.now in
    let over = c.loop-part-test.false in
    all_in said_by call.scene.now call.at c.args.asked.now c.args.parts.now.items c.loop-part.part-index c.loop-part.parts.items (omega (arith, over)) c.loop-part.invariant

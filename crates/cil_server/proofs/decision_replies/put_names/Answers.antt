use Rattle.std.proofs.Common.{◌≡◌, arith}
use Rattle.cil_server.specs.Streams.{Tells}
use Rattle.cil_server.proofs.NameLemmas.{bit_of, told_all, told_bit, told_hyphen, told_none}
use Rattle.cil_server.proofs.decision_replies.put_names.Goals as goal

pub loop-bit-init : goal.loop-bit-init
loop-bit-init g c = told_none c.args.names.now c.args.mask c.args.output.now c.args.output.now c.args.output.now

pub loop-bit-preserved : goal.loop-bit-preserved
loop-bit-preserved g c =
    told_bit c.args.names.now _ c.args.output.now c.loop-bit.output c.put_name-is_first.new.output _ _ _ c.loop-bit.invariant
    (bit_of c.args.names.now _ _ _ _ c.named-name.result (Tells c.loop-bit.output c.put_name-is_first.new.output) c.named-name.ensures c.put_name-is_first.ensures)

pub returns-then-is_first : goal.returns-then-is_first
returns-then-is_first g c = λ rising.
    let at : c.loop-bit.bit ≡ 32 = omega (arith, c.loop-bit-test.false, c.loop-bit.auto.bit-end) in
    told_hyphen c.args.names.now _ c.args.output.now c.loop-bit.output c.put.new.self _ _ rising c.loop-bit.invariant at c.if-is_first.true c.put.ensures

pub returns-else-is_first : goal.returns-else-is_first
returns-else-is_first g c = λ rising.
    let at : c.loop-bit.bit ≡ 32 = omega (arith, c.loop-bit-test.false, c.loop-bit.auto.bit-end) in
    told_all c.args.names.now _ c.args.output.now c.loop-bit.output c.loop-bit.output _ _ rising c.loop-bit.invariant at c.if-is_first.false

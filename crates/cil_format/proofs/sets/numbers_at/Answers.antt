use Rattle.std.proofs.lemmas.Result.{err_from_is_err_and}
use Rattle.cil_format.specs.Format.{many_at}
use Rattle.cil_format.specs.Fields.{small}
use Rattle.cil_format.proofs.Loops.{more, stops, ended}
use Rattle.cil_format.proofs.sets.numbers_at.Goals as goal

pub returns-in_err-number : goal.returns-in_err-number
returns-in_err-number c =
    let p = err_from_is_err_and c.from_residual-in_err-number.result c.from_residual-in_err-number.ensures.1 in
    rw (p.1, p.2)
    (stops (small c.args.limit).read c.in_err-number.field-0.0 c.loop.numbers.items c.args.count c.loop.counter c.loop.rest.now
    (many_at (small c.args.limit).read c.args.count c.args.bytes.now) c.loop-test.true c.in_err-number.ensures c.loop.invariant)

pub loop-preserved : goal.loop-preserved
loop-preserved c =
    rw c.in_ok-push.ensures.items
    (more (small c.args.limit).read c.loop.numbers.items c.args.count c.loop.counter c.loop.rest.now c.in_ok-number.number c.in_ok-number.after.now
    (many_at (small c.args.limit).read c.args.count c.args.bytes.now) c.loop-test.true c.in_ok-number.ensures c.loop.invariant)

pub returns : goal.returns
returns c =
    ended (small c.args.limit).read c.loop.numbers.items c.args.count c.loop.counter c.loop.rest.now (many_at (small c.args.limit).read c.args.count c.args.bytes.now)
    c.loop-test.false c.loop.invariant

use Rattle.std.proofs.lemmas.Result.{err_from_is_err_and}
use Rattle.cil_format.specs.Format.{many_at}
use Rattle.cil_label_bytes.specs.Names.{permission}
use Rattle.cil_format.proofs.Loops.{more, stops, ended}
use Rattle.cil_table_bytes.proofs.classes.permissions_from.Goals as goal

pub returns-in_err-name : goal.returns-in_err-name
returns-in_err-name c =
    let p = err_from_is_err_and c.from_residual.result c.from_residual.ensures.1 in
    rw (p.1, p.2)
    (stops permission.read c.in_err-name.field-0.0 c.loop.permissions.items c.args.count c.loop.counter c.loop.rest.now
    (many_at permission.read c.args.count c.args.bytes.now) c.loop-test.true c.in_err-name.ensures c.loop.invariant)

pub loop-preserved : goal.loop-preserved
loop-preserved c =
    rw c.in_ok-push.ensures.items
    (more permission.read c.loop.permissions.items c.args.count c.loop.counter c.loop.rest.now c.in_ok-name.name c.in_ok-name.after.now
    (many_at permission.read c.args.count c.args.bytes.now) c.loop-test.true c.in_ok-name.ensures c.loop.invariant)

pub returns : goal.returns
returns c =
    ended permission.read c.loop.permissions.items c.args.count c.loop.counter c.loop.rest.now (many_at permission.read c.args.count c.args.bytes.now)
    c.loop-test.false c.loop.invariant

use Rattle.std.proofs.Common.{[]}
use Rattle.std.proofs.lemmas.Result.{err_from_is_err_and}
use Rattle.cil_format.specs.Format.{each_at}
use Rattle.cil_label_bytes.specs.Layout.{new_name}
use Rattle.cil_label_bytes.proofs.EachLoops.{each_more, each_stops, each_ended}
use Rattle.cil_label_bytes.proofs.listings.names_at.Goals as goal

pub returns-in_err-name : goal.returns-in_err-name
returns-in_err-name c =
    let p = err_from_is_err_and c.from_residual.result c.from_residual.ensures.1 in
    rw (p.1, p.2)
    (each_stops (λ done rest. (new_name done).read rest) c.in_err-name.field-0.0 c.loop.names c.args.count c.loop.counter c.loop.rest.now
    (each_at (λ done rest. (new_name done).read rest) [] c.args.count c.args.bytes.now) c.loop-test.true c.in_err-name.ensures c.loop.invariant)

pub loop-preserved : goal.loop-preserved
loop-preserved c =
    rw c.in_ok-add.ensures
    (each_more (λ done rest. (new_name done).read rest) c.loop.names c.args.count c.loop.counter c.loop.rest.now c.in_ok-name.name.now c.in_ok-name.after.now
    (each_at (λ done rest. (new_name done).read rest) [] c.args.count c.args.bytes.now) c.loop-test.true c.in_ok-name.ensures c.loop.invariant)

pub returns : goal.returns
returns c =
    each_ended (λ done rest. (new_name done).read rest) c.loop.names c.args.count c.loop.counter c.loop.rest.now
    (each_at (λ done rest. (new_name done).read rest) [] c.args.count c.args.bytes.now) c.loop-test.false c.loop.invariant

use Rattle.std.proofs.Common.{[]}
use Rattle.std.proofs.lemmas.Result.{err_from_is_err_and}
use Rattle.cil_format.specs.Format.{each_at}
use Rattle.cil_label_bytes.specs.Layout.{sensitivity}
use Rattle.cil_label_bytes.proofs.PairLemmas.{all_ended, one_more, one_stops}
use Rattle.cil_label_bytes.proofs.listings.levels_at.Goals as goal

pub returns-in_err-name-clause-read : goal.returns-in_err-name-clause-read
returns-in_err-name-clause-read c =
    let p = err_from_is_err_and c.from_residual.result c.from_residual.ensures.1 in
    rw (p.1, p.2)
    (one_stops c.args.categories c.loop.names c.loop.permitted.items c.loop.invariant.1 c.args.count c.loop.counter c.loop.rest.now
    (each_at (λ done rest. (sensitivity c.args.categories done).read rest) [] c.args.count c.args.bytes.now) c.loop.invariant.0 c.in_err-name.field-0.0 c.loop-test.true c.in_err-name.ensures.read)

pub loop-preserved : goal.loop-preserved
loop-preserved c =
    one_more c.args.categories c.loop.names c.loop.permitted.items c.loop.invariant.1 c.args.count c.loop.counter c.loop.rest.now
    (each_at (λ done rest. (sensitivity c.args.categories done).read rest) [] c.args.count c.args.bytes.now) c.loop.invariant.0 c.in_ok-name.name.now c.in_ok-name.set c.in_ok-name.after.now
    c.add.new.self c.push.new.self.items c.loop-test.true c.in_ok-name.ensures.read c.in_ok-add.ensures c.in_ok-push.ensures.items

pub returns-clause-read : goal.returns-clause-read
returns-clause-read c =
    all_ended c.args.categories c.loop.names c.loop.permitted.items c.loop.invariant.1 c.args.count c.loop.counter c.loop.rest.now
    (each_at (λ done rest. (sensitivity c.args.categories done).read rest) [] c.args.count c.args.bytes.now) c.loop.invariant.0 c.loop-test.false

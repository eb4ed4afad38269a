use Rattle.std.proofs.Common.{sym, ◌∙◌, None}
use Rattle.std.proofs.lemmas.Result.{err_from_is_err_and}
use Rattle.cil_format.specs.Ends.{last_of}
use Rattle.cil_format.specs.Format.{rising_at}
use Rattle.cil_format.proofs.Loops.{rising_more, rising_stops, falls, rising_ended}
use Rattle.cil_format.proofs.section.records_at.Goals as goal

pub returns-in_err-record : goal.returns-in_err-record
returns-in_err-record g c =
    let read = (g.S.Section.format c.args.section.now).read in
    let p = err_from_is_err_and c.from_residual.result c.from_residual.ensures.1 in
    rw (p.1, p.2)
    (rising_stops read g.S.Section.less c.in_err-record.field-0.0 c.loop.records.items c.args.count c.loop.counter (last_of c.loop.last) c.loop.rest.now
    (rising_at g.S.Section.less read None c.args.count c.args.bytes.now) c.loop-test.true c.in_err-record.ensures c.loop.invariant)

pub returns-then-not-comes_next : goal.returns-then-not-comes_next
returns-then-not-comes_next g c =
    let read = (g.S.Section.format c.args.section.now).read in
    falls read g.S.Section.less c.loop.records.items c.args.count c.loop.counter (last_of c.loop.last) c.loop.rest.now c.front-raw.result.now c.in_ok-record.record
    c.in_ok-record.after.now (rising_at g.S.Section.less read None c.args.count c.args.bytes.now) c.loop-test.true c.in_ok-record.ensures (sym c.front-raw.ensures) (sym c.comes_next.ensures ∙ c.if-not-comes_next.true) c.loop.invariant

pub loop-preserved : goal.loop-preserved
loop-preserved g c =
    let read = (g.S.Section.format c.args.section.now).read in
    rw c.in_ok-push.ensures.items
    (rising_more read g.S.Section.less c.loop.records.items c.args.count c.loop.counter (last_of c.loop.last) c.loop.rest.now c.front-raw.result.now c.in_ok-record.record
    c.in_ok-record.after.now (rising_at g.S.Section.less read None c.args.count c.args.bytes.now) c.loop-test.true c.in_ok-record.ensures (sym c.front-raw.ensures) (sym c.comes_next.ensures ∙ c.if-not-comes_next.false) c.loop.invariant)

pub returns : goal.returns
returns g c =
    let read = (g.S.Section.format c.args.section.now).read in
    rising_ended read g.S.Section.less c.loop.records.items c.args.count c.loop.counter (last_of c.loop.last) c.loop.rest.now
    (rising_at g.S.Section.less read None c.args.count c.args.bytes.now) c.loop-test.false c.loop.invariant

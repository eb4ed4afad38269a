use Rattle.std.proofs.Common.{◌<◌, ◌∙◌, arith, subst}
use Rattle.std.proofs.lemmas.List.{take_rest}
use Rattle.cil_server.specs.Devices.{AppendsFront}
use Rattle.cil_server.proofs.OutputLemmas.{wrote_front, wrote_no_more, wrote_part}
use Rattle.cil_server.proofs.output.write_all.Goals as goal

pub loop-written-preserved : goal.loop-written-preserved
loop-written-preserved g c =
    let part = wrote_part _ _ _ _ _ _ c.loop-written.invariant.within c.loop-written.invariant.appends c.in-Ok.ensures.bound c.in-Ok.ensures.bytes in
    let some : 0 < c.in-Ok.count = omega (arith, c.in-Ok.count-test) in
    record {
      within = part.within;
      appends = part.appends;
      counts = c.in-Ok.ensures.counts.some some ∙ c.loop-written.invariant.counts;
      idle = λ none. absurd (omega (arith, none, c.loop-written-test.true));
    }

pub returns-in-Ok-eq0-clause-gives : goal.returns-in-Ok-eq0-clause-gives
returns-in-Ok-eq0-clause-gives g c = wrote_no_more _ _ _ _ _ _ _ c.loop-written.invariant.appends c.in-Ok-eq0.field-0-test c.in-Ok-eq0.ensures.bytes

pub returns-in-Err-clause-gives : goal.returns-in-Err-clause-gives
returns-in-Err-clause-gives g c =
    wrote_front _ _ _ c.args.bytes.now _ c.loop-written.invariant.appends
    (subst (λ z. AppendsFront (g.W.Sink.contents c.loop-written.writer) (g.W.Sink.contents c.push.new.self) z) (take_rest c.args.bytes.now c.loop-written.written) c.in-Err.ensures.bytes)

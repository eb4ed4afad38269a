use Rattle.std.specs.Prelude.{cond, map, slice_get}
use Rattle.std.proofs.Common.{ap, ◌∙◌, arith}
use Rattle.std.proofs.lemmas.List.{take_all}
use Rattle.cil_optionals.specs.Parts.{Part, parts_in}
use Rattle.cil_optionals.proofs.RowParts.{one_part, time_of_part}
use Rattle.cil_optionals.proofs.times.times_at_start.Goals as goal

pub loop-at-preserved : goal.loop-at-preserved
loop-at-preserved c =
    let ps = parts_in c.args.parts.now in
    let h = c.loop-at-test.true in
    let n = c.len-at-end.ensures in
    one_part (λ (p : Part). cond p.optional c.args.top 0) 0 ps c.loop-at.at _ _ _ (omega (arith, h, n)) c.loop-at.invariant
    (c.time_at_start.ensures ∙ time_of_part c.args.top (slice_get ps c.loop-at.at)) c.in_ok-push.ensures.items

pub returns : goal.returns
returns c =
    let ps = parts_in c.args.parts.now in
    let h = c.loop-at-test.false in
    let n = c.len-at-end.ensures in
    c.loop-at.invariant ∙ ap (map (λ (p : Part). cond p.optional c.args.top 0)) (take_all c.loop-at.at ps (omega (arith, h, n)))

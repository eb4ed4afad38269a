use Rattle.std.proofs.Common.{ap, arith, ◌∙◌}
use Rattle.std.specs.Prelude.{sum_by}
use Rattle.std.proofs.lemmas.List.{take_all}
use Rattle.cil_optionals.specs.PartCounts.{lost_inside}
use Rattle.cil_optionals.specs.Parts.{parts_in}
use Rattle.cil_optionals.proofs.RowParts.{sum_more}
use Rattle.cil_optionals.proofs.counts.lost_candidates.Goals as goal

pub loop-at-preserved : goal.loop-at-preserved
loop-at-preserved c =
    let h = c.loop-at-test.true in
    let n = c.len-at-end.ensures in
    sum_more (lost_inside c.args.declared.now) (parts_in c.args.parts.now) c.loop-at.at c.loop-at.count c.in_ok-more.more _ (omega (arith, h, n)) c.loop-at.invariant c.in_ok-more.ensures c.in_ok-count.ensures

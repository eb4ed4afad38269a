use Rattle.std.proofs.Common.{arith}
use Rattle.cil_server.proofs.LineLemmas.{capped_more, capped_none, value_more}
use Rattle.cil_server.proofs.line.capped_value.Goals as goal

pub loop-digit-init : goal.loop-digit-init
loop-digit-init c = record { most = omega arith; capped = capped_none }

pub loop-digit-preserved : goal.loop-digit-preserved
loop-digit-preserved c =
    let more = value_more c.args.digits.now c.loop-digit.digit-index c.loop-digit-test.true in
    capped_more _ _ _ c.saturating_sub-digit.result _ _ more c.saturating_sub-digit.ensures c.loop-digit.invariant.most c.loop-digit.invariant.capped c.min-value.ensures

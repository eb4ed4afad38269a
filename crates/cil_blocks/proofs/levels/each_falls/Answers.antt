use Rattle.cil_blocks.proofs.StepLemmas.{still_falls}
use Rattle.cil_blocks.proofs.levels.each_falls.Goals as goal

pub loop-number-preserved : goal.loop-number-preserved
loop-number-preserved c =
    still_falls c.args.steps.now.parts.now c.args.steps.now.targets.now c.loop-number.number c.args.levels.now c.parts_at.result.now c.at.result.now
    c.level_at-level.result c.level_at-level.ensures c.parts_at.ensures c.at.ensures (c.are_below.ensures c.if-not-are_below.false)
    (c.are_below-in-loop-number.ensures c.if-not-are_below-2.false) c.loop-number.invariant

use Rattle.std.proofs.Common.{arith, refl}
use Rattle.cil_modset.proofs.RisingLemmas.{below_step}
use Rattle.cil_modset.proofs.new_texts.pass_below.Goals as goal

pub loop-at-preserved : goal.loop-at-preserved
loop-at-preserved c = record {
  onward = omega arith;
  within = omega arith;
  below = below_step _ _ _ c.loop-at.invariant.below (rw (← c.get.ensures) (c.if-is_below.ensures.0 refl));
}

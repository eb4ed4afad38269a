use Rattle.cil_format.proofs.WideMasks.{wide_mask}
use Rattle.cil_format.proofs.masks.is_within.Goals as goal

pub returns : goal.returns
returns c = wide_mask c.args.mask c.args.width c.ranges.mask.fits c.if-width-lt32.false

use Rattle.cil_label_bytes.proofs.RangeLemmas.{dominates_as}
use Rattle.cil_label_bytes.proofs.ranges.dominates.Goals as goal

pub returns : goal.returns
returns c = dominates_as c.args.high.now c.args.low.now c.dominates.result c.dominates.ensures

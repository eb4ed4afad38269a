use Rattle.cil_neverallow.proofs.EndLemmas.{common_least, in_both_of}
use Rattle.cil_neverallow.proofs.overlap.least_in_both.Goals as goal

pub returns : goal.returns
returns c = in_both_of _ _ _ _ c.in_ok-first.ensures c.in_ok-second.ensures c.least_common.result (common_least _ _ c.least_common.result c.least_common.ensures)

use Rattle.cil_neverallow.proofs.EndLemmas.{in_all_of}
use Rattle.cil_neverallow.proofs.overlap.least_in_all.Goals as goal

pub returns : goal.returns
returns c = in_all_of _ _ _ _ _ _ c.in_ok-first.ensures c.in_ok-second.ensures c.in_ok-third.ensures c.least_of_three.result c.least_of_three.ensures

use Rattle.cil_ranges.proofs.GroundLemmas.{one_ground}
use Rattle.cil_ranges.proofs.laws.one_ground.Goals as goal

pub returns : goal.returns
returns c = λ xs s g h of_g of_h. one_ground xs s g h of_g of_h

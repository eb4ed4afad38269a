use Rattle.cil_blocks.proofs.CycleLemmas.{is_cycle}
use Rattle.cil_blocks.proofs.laws.cycle.Goals as goal

pub returns : goal.returns
returns c = λ ws. is_cycle ws

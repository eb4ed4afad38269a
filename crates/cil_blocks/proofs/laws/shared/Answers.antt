use Rattle.cil_blocks.proofs.CycleLemmas.{is_shared}
use Rattle.cil_blocks.proofs.laws.shared.Goals as goal

pub returns : goal.returns
returns c = λ ws. is_shared ws

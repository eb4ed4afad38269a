use Rattle.cil_sexpr.proofs.Slices.{has_slices}
use Rattle.cil_sexpr.proofs.laws.slices.Goals as goal

pub returns : goal.returns
returns c = has_slices

use Rattle.cil_sexpr.proofs.NeverBoth.{never_both}
use Rattle.cil_sexpr.proofs.laws.never_both.Goals as goal

pub returns : goal.returns
returns c = never_both

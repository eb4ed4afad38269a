use Rattle.cil_sexpr.proofs.AlwaysEither.{always_either}
use Rattle.cil_sexpr.proofs.laws.always_either.Goals as goal

pub returns : goal.returns
returns c = always_either

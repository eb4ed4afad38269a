use Rattle.std.proofs.Common.{ap, sym}
use Rattle.cil_syntax.specs.Written as written
use Rattle.cil_syntax.specs.Written.{Written}
use Rattle.cil_macros.proofs.branches.spot_at.Goals as goal

pub returns-in-None : goal.returns-in-None
returns-in-None c = λ p here. sym (ap (λ (w : Written). w.statement.at) (c.in-None.ensures p here))

pub returns-in-Some : goal.returns-in-Some
returns-in-Some c = λ p here. sym (ap (λ (y : written.Statement). y.at) (c.in-Some.ensures p here))

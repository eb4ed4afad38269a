use Rattle.cil_known.proofs.MemberLemmas.{declared_is}
use Rattle.cil_known.proofs.laws.tests_declared.Goals as goal

pub returns : goal.returns
returns c xs s kind t = declared_is xs s kind t

use Rattle.cil_known.proofs.MemberLemmas.{stands_for_one}
use Rattle.cil_known.proofs.laws.stands_for_one.Goals as goal

pub returns : goal.returns
returns c xs s kind none w t = stands_for_one xs s kind none w t

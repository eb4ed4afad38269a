use Rattle.cil_host.proofs.CheckLemmas.{permission_checked, permission_lacking}
use Rattle.cil_host.proofs.host.Host.check.Goals as goal

pub returns-in-Some-clause-answer : goal.returns-in-Some-clause-answer
returns-in-Some-clause-answer g c =
    permission_checked _ _ _ _ _ _ c.query.ensures.stays _ _ c.in-Ok.is c.query.ensures.answer c.in-Some.bit c.in-Some.ensures.found

pub returns-in-None-clause-answer : goal.returns-in-None-clause-answer
returns-in-None-clause-answer g c =
    permission_lacking _ _ _ _ _ _ c.query.ensures.stays _ _ c.in-Ok.is c.query.ensures.answer c.in-None.ensures.none

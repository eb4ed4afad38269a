use Rattle.cil_server.proofs.NameLemmas.{decision_told}
use Rattle.cil_server.proofs.decision_replies.put_decision.Goals as goal

pub returns : goal.returns
returns g c = decision_told _ _ _ _ _ c.permissions.ensures c.put_masks.ensures

use Rattle.cil_decide.proofs.ChangeLemmas.{both_transitions}
use Rattle.cil_decide.proofs.change.transitions.Goals as goal

pub returns : goal.returns
returns c = both_transitions c.args.permissions.now c.mask_of.result c.mask_of-2.result c.mask_of.ensures c.mask_of-2.ensures

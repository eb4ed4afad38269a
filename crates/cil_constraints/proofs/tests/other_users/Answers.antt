use Rattle.cil_constraints.proofs.TestLemmas.{one_comparison}
use Rattle.cil_constraints.proofs.tests.other_users.Goals as goal

pub from_vec-requires : goal.from_vec-requires
from_vec-requires c = one_comparison _ _ _ _ c.new-steps.ensures.items c.in_ok-push.ensures.items

use Rattle.cil_constraints.proofs.DepthLemmas.{shallow_is}
use Rattle.cil_constraints.proofs.depth.is_shallow.Goals as goal

pub returns : goal.returns
returns c = shallow_is (λ rest. rest.now) c.behind_one.result _ c.args.steps.now 128 c.is_some.ensures c.behind_one.ensures

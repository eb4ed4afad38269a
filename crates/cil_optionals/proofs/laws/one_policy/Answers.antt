use Rattle.cil_optionals.proofs.PolicyLemmas.{one_policy}
use Rattle.cil_optionals.proofs.laws.one_policy.Goals as goal

pub returns : goal.returns
returns c = one_policy

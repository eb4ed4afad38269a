use Rattle.cil_mls.proofs.OrderFaultLemmas.{not_over, over_told}
use Rattle.cil_mls.proofs.policy_faults.check_limit.Goals as goal

pub returns-then-names-limit : goal.returns-then-names-limit
returns-then-names-limit c = λ xs s kind are. (c.if-names-limit.true, not_over xs s kind c.args.names.now are c.args.limit.most c.args.limit.word.now c.if-names-limit.true)

pub returns : goal.returns
returns c = λ xs s kind are. over_told xs s kind c.args.names.now are c.args.limit.most c.args.limit.word.now c.if-names-limit.false _ c.policy_fault.ensures

use Rattle.cil_index.proofs.OrderLemmas.{kept_is}
use Rattle.cil_index.proofs.record.record_of.Goals as goal

pub returns : goal.returns
returns c = λ distinct named size are.
    kept_is c.args.branches.now distinct named c.args.numbers.now are c.args.rule.now c.branch_of.result c.number_at.result c.target_of.result c.branch_of.ensures.same c.branch_of.ensures.within c.number_at.ensures (c.target_of.ensures distinct named size are)

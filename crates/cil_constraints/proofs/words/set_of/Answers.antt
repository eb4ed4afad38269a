use Rattle.cil_constraints.proofs.WordLemmas.{whole_set}
use Rattle.cil_constraints.proofs.words.set_of.Goals as goal

pub returns : goal.returns
returns c = whole_set c.args.sets.now c.args.module c.args.operand.now c.args.words.now _ _ c.new-set.ensures c.in_ok-add_listed.ensures

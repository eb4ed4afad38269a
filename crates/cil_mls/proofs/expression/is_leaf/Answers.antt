use Rattle.cil_mls.proofs.ValueLemmas.{said_leaf}
use Rattle.cil_mls.proofs.expression.is_leaf.Goals as goal

pub returns-in-Leaf : goal.returns-in-Leaf
returns-in-Leaf c = said_leaf c.args.term.now _ c.in-Leaf.is

use Rattle.cil_sexpr.proofs.OneTree.{has_one_tree}
use Rattle.cil_sexpr.proofs.laws.one_tree.Goals as goal

pub returns : goal.returns
returns c = has_one_tree

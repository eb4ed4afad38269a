use Rattle.std.specs.Prelude.{length}
use Rattle.cil_sexpr.proofs.Order.{nodes_in_order}
use Rattle.cil_sexpr.proofs.laws.in_order.Goals as goal

pub returns : goal.returns
returns c = λ text nodes is. nodes_in_order text 0 0 (length text) nodes is.whole

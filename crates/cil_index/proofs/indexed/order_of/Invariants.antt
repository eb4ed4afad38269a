use Rattle.cil_index.proofs.LayoutLemmas.{AreFirstPlaced}
use Rattle.cil_index.proofs.indexed.order_of.Given as goal

abbrev pub invariant-loop-at : goal.invariant-loop-at
invariant-loop-at l = AreFirstPlaced l.count l.entries l.at l.order.items

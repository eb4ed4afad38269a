use Rattle.std.proofs.Common.{◌≡◌}
use Rattle.cil_blocks.specs.Numbers.{AreGoneUp, with_numbers}
use Rattle.cil_blocks.specs.Places.{reached_top}
use Rattle.cil_blocks.specs.Placing.{numbers_left}
use Rattle.cil_blocks.proofs.places.add_chains.Given as goal

abbrev pub invariant-loop-written : goal.invariant-loop-written
invariant-loop-written l = record {
  numbers : with_numbers l.scope (numbers_left l.namespaces reached_top l.left.items) ≡ with_numbers l.fn.scope (numbers_left l.namespaces reached_top l.fn.left.items);
  gone_up : AreGoneUp l.namespaces l.gone_up.keys l.scope;
}

abbrev pub decreases-loop-written : goal.decreases-loop-written
decreases-loop-written l = goal.left-loop-written l

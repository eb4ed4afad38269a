use Rattle.cil_macros.specs.Nesting.{AreInnermost}
use Rattle.cil_macros.specs.Walks.{placed_in}
use Rattle.cil_macros.proofs.nesting.innermost_of.Given as goal

abbrev pub invariant-loop-at : goal.invariant-loop-at
invariant-loop-at l = AreInnermost (placed_in l.spaces l.brought.entries.items) l.at l.numbers

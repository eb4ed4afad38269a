use Rattle.std.proofs.Common.{◌≡◌, ◌++◌, take}
use Rattle.cil_blocks.specs.Seeds.{bodies}
use Rattle.cil_blocks.proofs.reach.push_blocks.Given as goal

abbrev pub invariant-loop-number : goal.invariant-loop-number
invariant-loop-number l = l.handed.items ≡ l.fn.handed.items ++ bodies (take l.number-index l.numbers)

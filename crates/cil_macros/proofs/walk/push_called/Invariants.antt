use Rattle.std.proofs.Common.{◌≡◌, ◌++◌, map, take}
use Rattle.cil_macros.specs.Walks.{called_by}
use Rattle.cil_macros.proofs.walk.push_called.Given as goal

abbrev pub invariant-loop-number : goal.invariant-loop-number
invariant-loop-number l = l.called.items ≡ l.fn.called.items ++ map (called_by l.opener l.body) (take l.number-index l.numbers)

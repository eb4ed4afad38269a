use Rattle.std.proofs.Common.{◌≡◌, take}
use Rattle.cil_blocks.specs.Numbers.{with_numbers}
use Rattle.cil_macros.proofs.body_scope.add_all.Given as goal

abbrev pub invariant-loop-number : goal.invariant-loop-number
invariant-loop-number l = l.scope ≡ with_numbers l.fn.scope (take l.number-index l.numbers)

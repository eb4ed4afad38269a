use Rattle.std.proofs.Common.{◌≡◌, ◌≤◌, ◌++◌, length, take}
use Rattle.cil_words.proofs.number_lists.push_small.Given as goal

abbrev pub invariant-loop-number : goal.invariant-loop-number
invariant-loop-number l = (l.numbers.items ≡ l.fn.numbers.items ++ take l.number-index l.list) × (length l.fn.numbers.items ≤ length l.numbers.items)

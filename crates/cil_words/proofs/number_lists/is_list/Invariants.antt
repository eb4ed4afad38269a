use Rattle.std.proofs.Common.{◌≡◌, take}
use Rattle.cil_words.proofs.number_lists.is_list.Given as goal

abbrev pub invariant-loop-i : goal.invariant-loop-i
invariant-loop-i l = take l.i l.numbers ≡ take l.i l.list

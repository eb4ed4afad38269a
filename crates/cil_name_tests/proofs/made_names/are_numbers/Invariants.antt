use Rattle.cil_name_tests.proofs.UpToLemmas.{AreUpTo}
use Rattle.cil_name_tests.proofs.made_names.are_numbers.Given as goal

abbrev pub invariant-loop-number : goal.invariant-loop-number
invariant-loop-number l = AreUpTo l.fn.numbers l.most l.number-index

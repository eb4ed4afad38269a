use Rattle.cil_mls.proofs.BitLemmas.{IsAddedUpTo}
use Rattle.cil_mls.proofs.categories.Categories.add_between.Given as goal

abbrev pub invariant-loop-at : goal.invariant-loop-at
invariant-loop-at l = IsAddedUpTo l.fn.self.words l.first l.last l.at l.self.words

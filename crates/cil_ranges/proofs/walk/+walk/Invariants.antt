use Rattle.cil_ranges.proofs.WalkLemmas.{AreLeft}
use Rattle.cil_ranges.proofs.walk.+walk.Given as goal

abbrev pub invariant-push_terms-loop-term : goal.invariant-push_terms-loop-term
invariant-push_terms-loop-term l = AreLeft l.walk l.terms l.fn.ahead l.fn.faults.items l.term-index l.rest l.faults.items

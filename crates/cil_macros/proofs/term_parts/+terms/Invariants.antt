use Rattle.cil_macros.proofs.AskLemmas.{AreWritten}
use Rattle.cil_macros.proofs.term_parts.+terms.Given as goal

abbrev pub invariant-push_terms-loop-term : goal.invariant-push_terms-loop-term
invariant-push_terms-loop-term l = AreWritten l.«module» l.terms l.fn.parts.items l.term-index l.parts.items

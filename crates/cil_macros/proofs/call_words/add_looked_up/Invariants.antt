use Rattle.cil_macros.proofs.CallWordLemmas.{AreAdded}
use Rattle.cil_macros.proofs.call_words.add_looked_up.Given as goal

abbrev pub invariant-loop-term : goal.invariant-loop-term
invariant-loop-term l = AreAdded l.called.at.«module» l.term-items l.arguments l.fn.words.items l.term-index l.taken l.words.items

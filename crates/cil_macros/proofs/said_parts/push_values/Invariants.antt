use Rattle.cil_macros.proofs.SaidPartLemmas.{ArePushed}
use Rattle.cil_macros.proofs.said_parts.push_values.Given as goal

abbrev pub invariant-loop-term : goal.invariant-loop-term
invariant-loop-term l = ArePushed l.called.at.«module» l.term-items l.fn.arguments l.fn.parts.items l.term-index l.taken l.parts.items

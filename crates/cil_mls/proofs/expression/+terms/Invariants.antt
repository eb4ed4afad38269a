use Rattle.cil_mls.proofs.ValueLemmas.{IsLeft}
use Rattle.cil_mls.proofs.expression.+terms.Given as goal

abbrev pub invariant-joined-loop-part : goal.invariant-joined-loop-part
invariant-joined-loop-part l = IsLeft l.by.held.now l.by.count l.join l.parts l.words l.part-index l.all.words l.rest

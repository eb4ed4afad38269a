use Rattle.cil_ranges.proofs.WalkLemmas.{ArePast}
use Rattle.cil_ranges.proofs.walk.+past.Given as goal

abbrev pub invariant-parts_past_all-loop-term : goal.invariant-parts_past_all-loop-term
invariant-parts_past_all-loop-term l = ArePast l.terms l.parts l.term-index l.rest

use Rattle.cil_levels.proofs.InverseLemmas.{ArePlaced}
use Rattle.cil_levels.proofs.inverse.inverse_of.Given as goal

abbrev pub invariant-loop-at : goal.invariant-loop-at
invariant-loop-at l = ArePlaced l.count l.row l.at l.places.items

use Rattle.std.specs.Prelude.{take}
use Rattle.cil_conditions.specs.Gathered.{ArePlacesOf}
use Rattle.cil_conditions.proofs.branches.places_of.Given as goal

abbrev pub invariant-loop-one : goal.invariant-loop-one
invariant-loop-one l = ArePlacesOf l.rows (take l.one-index l.found) l.places.items

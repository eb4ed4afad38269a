use Rattle.cil_macros.specs.ListPlaces.{ArePlaces, AreWrongMarks}
use Rattle.cil_macros.proofs.list_places.list_marks.Given as goal

abbrev pub invariant-loop-rank : goal.invariant-loop-rank
invariant-loop-rank l = ArePlaces l.scene l.marks.items × AreWrongMarks l.scene l.rank l.marks.items

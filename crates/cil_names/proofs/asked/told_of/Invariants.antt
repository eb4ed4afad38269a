use Rattle.std.proofs.Common.{List}
use Rattle.cil_macros.specs.Placed.{Placed}
use Rattle.cil_names.specs.Asked.{wanted_by}
use Rattle.cil_names.proofs.AskedLemmas.{IsLeftOf}
use Rattle.cil_names.proofs.asked.told_of.Given as goal

abbrev pub invariant-loop-one : goal.invariant-loop-one
invariant-loop-one l = (ps : List Placed) → IsLeftOf (wanted_by ps) l.asked l.number l.one-index l.left

use Rattle.std.proofs.Common.{◌≡◌}
use Rattle.std.specs.Prelude.{Some, slice_get}
use Rattle.cil_macros.specs.Placed.{Placed, meaning}
use Rattle.cil_macros.specs.Scene.{placed_of_scene}
use Rattle.cil_macros.specs.Walks.{written_in}
use Rattle.cil_macros.proofs.ListPlaceLemmas.{AreRight}
use Rattle.cil_macros.proofs.list_values.Caller.has_wrong_part.Given as goal

abbrev pub invariant-loop-part : goal.invariant-loop-part
invariant-loop-part l = (p : Placed) → slice_get (placed_of_scene l.self.scene.now) l.self.at ≡ Some p → AreRight (meaning (written_in l.self.scene.now.spaces.now) p) l.parts l.part-index

use Rattle.std.proofs.Common.{◌≡◌, List}
use Rattle.std.specs.Prelude.{Some, slice_get}
use Rattle.cil_syntax.specs.Said.{all_said}
use Rattle.cil_macros.specs.Calls.{bound}
use Rattle.cil_macros.specs.Parameters.{parameters_in}
use Rattle.cil_macros.specs.Placed.{Bound, Placed}
use Rattle.cil_macros.specs.Scene.{placed_of_scene}
use Rattle.cil_macros.specs.Walks.{written_in}
use Rattle.cil_macros.proofs.ListPlaceLemmas.{AreSearched}
use Rattle.cil_macros.proofs.list_values.Caller.is_wrong_call.Given as goal

abbrev pub invariant-loop-term : goal.invariant-loop-term
invariant-loop-term l =
    (p : Placed) (bs : List Bound) → slice_get (placed_of_scene l.self.scene.now) l.self.at ≡ Some p
    → bound (written_in l.self.scene.now.spaces.now) p (parameters_in (all_said l.called.at.«module» l.term-items)) (all_said l.call.at.«module» l.arguments) ≡ Some bs
    → AreSearched (written_in l.self.scene.now.spaces.now) p l.called.at.«module» l.call.at.«module» l.term-items l.arguments l.term-index l.taken

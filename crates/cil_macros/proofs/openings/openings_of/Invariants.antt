use Rattle.std.proofs.Common.{◌≡◌, length}
use Rattle.cil_macros.specs.Macros.{all_standing}
use Rattle.cil_macros.specs.Openings.{AreOpenings}
use Rattle.cil_macros.specs.Scene.{placed_of_scene}
use Rattle.cil_macros.specs.Walks.{written_in}
use Rattle.cil_macros.proofs.openings.openings_of.Given as goal

abbrev pub invariant-loop-body : goal.invariant-loop-body
invariant-loop-body l =
    (length l.openings.items ≡ l.body-index)
    × AreOpenings (written_in l.scene.spaces.now) (all_standing l.scene.spaces.now) (placed_of_scene l.scene) l.scene.brought.now.bodies.items l.openings.items

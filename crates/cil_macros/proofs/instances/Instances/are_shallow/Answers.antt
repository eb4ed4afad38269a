use Rattle.std.proofs.Common.{refl, subst}
use Rattle.cil_macros.specs.Depths.{ArePlacedShallow}
use Rattle.cil_macros.specs.Items.{Kept, all_placed}
use Rattle.cil_macros.proofs.DepthLemmas.{placed_shallow}
use Rattle.cil_macros.proofs.instances.Instances.are_shallow.Goals as goal

pub returns : goal.returns
returns c = record {
  written = subst (λ (i : Kept). ArePlacedShallow (all_placed i)) c.self.view_is
      (placed_shallow (c.self.inside.spaces.now, c.self.inside.brought.entries.items) c.self.inside.brought c.self.invariant.0 refl);
}

-- What the step of macros is made of.
use Rattle.std.specs.Prelude.{ℕ, ◌+◌, ◌≤◌, List, length}
use Rattle.cil_base.specs.Lists.{Lists}
use Rattle.cil_faults.specs.declared.fault.Fault.{Fault}
use Rattle.cil_blocks.specs.Places.{Standings, entries_in}
use Rattle.cil_macros.specs.declared.chain.Brought.{Brought}
use Rattle.cil_macros.specs.declared.expansion.Opened.{Opened}
use Rattle.cil_macros.specs.declared.openings.Opening.{Opening}
use Rattle.cil_macros.specs.declared.scene.Scene.{Scene}
use Rattle.cil_macros.specs.Calls.{IsPlaced, placed_cmp}
use Rattle.cil_macros.specs.ExpandFaults.{ExpandFault, ExpandStep}
use Rattle.cil_macros.specs.Instances.{AreInstances, AreMeant}
use Rattle.cil_macros.specs.Macros.{all_standing}
use Rattle.cil_macros.specs.Scene.{IsOpened}
use Rattle.cil_macros.specs.Walks.{AreBrought, AreInTurn, placed_in, written_in}

-- nothing is wrong with the calls, and they are not too many
abbrev pub IsLawful : Standings → Type 0
IsLawful s = ((f : Fault) → ExpandFault (written_in s) (all_standing s) f → ⊥) × ((f : Fault) → ExpandStep (written_in s) (all_standing s) f → ⊥)

-- what calls bring, and what their words mean, where nothing is wrong
abbrev pub AreOpened : Standings → Opened → Type 0
AreOpened s o = AreInstances s o.brought × AreMeant s o.brought o.declared o.openings.items

-- all that calls bring, within the limit
pub record AreAllBrought (s : Standings) (limit : ℕ) (b : Brought) : Type 0 where
  pub brought : AreBrought s b
  pub turn : AreInTurn s b.entries.items b.bodies.items (length (entries_in s) + length b.entries.items)
  pub all : Lists placed_cmp (IsPlaced (written_in s) (all_standing s)) (placed_in s b.entries.items)
  pub few : length (entries_in s) + length b.entries.items ≤ limit

-- what bodies have from their calls, where nothing is wrong with these
pub record AreJudged (s : Scene) (os : List Opening) : Type 0 where
  pub opened : IsOpened s os
  pub lawful : IsLawful s.spaces.now

-- All instances, as they are kept: what stands, what calls bring, and what the words of both mean. This project's profile.
use Rattle.std.specs.Prelude.{◌≡◌, ◌≤◌, ◌+◌, ℕ, length, List}
use Rattle.cil_base.specs.Lists.{Lists}
use Rattle.cil_faults.specs.declared.fault.Fault.{Fault}
use Rattle.cil_blocks.specs.InheritFaults.{most_instances}
use Rattle.cil_blocks.specs.Places.{AreStandings, Standings, entries_in}
use Rattle.cil_macros.specs.declared.chain.Brought.{Brought}
use Rattle.cil_macros.specs.declared.declared_names.Declared.{Declared}
use Rattle.cil_macros.specs.declared.openings.Opening.{Opening}
use Rattle.cil_macros.specs.Calls.{IsPlaced, placed_cmp}
use Rattle.cil_macros.specs.DeclaredInBodies.{AreDeclared}
use Rattle.cil_macros.specs.ExpandFaults.{ExpandFault}
use Rattle.cil_macros.specs.Macros.{all_standing}
use Rattle.cil_macros.specs.Nesting.{AreInnermost}
use Rattle.cil_macros.specs.Openings.{AreOpenings}
use Rattle.cil_macros.specs.Walks.{AreBrought, AreInTurn, placed_in, written_in}

-- all that is placed in a program in which nothing is wrong with the blocks and the calls
pub record AreInstances (s : Standings) (b : Brought) : Type 0 where
  pub standings : AreStandings s
  pub brought : AreBrought s b
  pub in_turn : AreInTurn s b.entries.items b.bodies.items (length (entries_in s) + length b.entries.items)
  pub lawful : (f : Fault) → ExpandFault (written_in s) (all_standing s) f → ⊥
  pub placed : Lists placed_cmp (IsPlaced (written_in s) (all_standing s)) (placed_in s b.entries.items)
  pub few : length (entries_in s) + length b.entries.items ≤ most_instances

-- and what words mean there
pub record AreMeant (s : Standings) (b : Brought) (d : Declared) (os : List Opening) : Type 0 where
  pub declared : AreDeclared (written_in s) d
  pub openings : AreOpenings (written_in s) (all_standing s) (placed_in s b.entries.items) b.bodies.items os
  pub many : length os ≡ length b.bodies.items

-- and which optionals are round it
abbrev pub HasRounds : Standings → Brought → List ℕ → Type 0
HasRounds s b numbers = AreInnermost (placed_in s b.entries.items) (length (placed_in s b.entries.items)) numbers

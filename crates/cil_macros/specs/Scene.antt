-- What meanings follow from: all that stands, what calls bring, and what bodies declare.
use Rattle.std.specs.Prelude.{◌≡◌, ℕ, ◌+◌, ◌<◌, List, length, Some, find, slice_get}
use Rattle.cil_syntax.specs.declared.term.Op.{Op}
use Rattle.cil_syntax.specs.declared.term.Word.{Word}
use Rattle.cil_syntax.specs.Terms.{Term}
use Rattle.cil_blocks.specs.Places.{AreStandings, entries_in}
use Rattle.cil_macros.specs.declared.meant.Argument.{Argument}
use Rattle.cil_macros.specs.declared.openings.Opening.{Opening}
use Rattle.cil_macros.specs.declared.scene.Scene.{Scene}
use Rattle.cil_macros.specs.DeclaredInBodies.{AreDeclared}
use Rattle.cil_macros.specs.Firsts.{IsEarlier}
use Rattle.cil_macros.specs.Macros.{all_standing}
use Rattle.cil_macros.specs.Meant.{IsWhole, put_there, value_there}
use Rattle.cil_macros.specs.Openings.{AreOpenings}
use Rattle.cil_macros.specs.Parameters.{cell_in, argument_kind, read_argument}
use Rattle.cil_macros.specs.Placed.{Bound, Placed, filled, is_served, meaning, put}
use Rattle.cil_macros.specs.Walks.{AreBrought, AreInTurn, placed_in, written_in}

pub record IsScene (s : Scene) : Type 0 where
  pub standings : AreStandings s.spaces.now
  pub brought : AreBrought s.spaces.now s.brought.now
  pub declared : AreDeclared (written_in s.spaces.now) s.declared.now

-- all that is placed there
abbrev pub placed_of_scene : Scene → List Placed
placed_of_scene s = placed_in s.spaces.now s.brought.now.entries.items

-- what is placed at a place stands, or it is known what its body has from its call
pub record IsKnown (s : Scene) (os : List Opening) (at : ℕ) : Type 0 where
  pub scene : IsScene s
  pub within : at < length (entries_in s.spaces.now) + length s.brought.now.entries.items
  pub opened : AreOpenings (written_in s.spaces.now) (all_standing s.spaces.now) (placed_of_scene s) s.brought.now.bodies.items os
  pub first : IsEarlier s.brought.now.entries.items (length os) (length (entries_in s.spaces.now)) at

-- each call that is unfolded has its body, and it is known what each body has from its call
pub record IsOpened (s : Scene) (os : List Opening) : Type 0 where
  pub scene : IsScene s
  pub in_turn : AreInTurn s.spaces.now s.brought.now.entries.items s.brought.now.bodies.items (length (entries_in s.spaces.now) + length s.brought.now.entries.items)
  pub opened : AreOpenings (written_in s.spaces.now) (all_standing s.spaces.now) (placed_of_scene s) s.brought.now.bodies.items os
  pub many : length os ≡ length s.brought.now.bodies.items

-- what an argument of a kind means, of the call that is placed there
abbrev pub SaysValue : Scene → ℕ → Op → Term Word → Argument → Type 0
SaysValue s at kind argument m =
    (p : Placed) (value : Term Word) → slice_get (placed_of_scene s) at ≡ Some p → read_argument (argument_kind kind) (cell_in argument) ≡ Some value
    → (value_there (placed_of_scene s) kind m ≡ filled (meaning (written_in s.spaces.now) p) value) × IsWhole (placed_of_scene s) m

-- the argument for which a word stands, as it is put there
pub record IsArgument (ps : List Placed) (w : Word) (bs : List Bound) (m : Argument) : Type 0 where
  pub bound : Bound
  pub is : find (is_served w) bs ≡ Some bound
  pub put_so : put w.sign bound.value ≡ put_there ps w.sign m
  pub whole : IsWhole ps m

-- What is kept of a call: the word of its macro and, where it is unfolded, the macro and what the arguments are.
use Rattle.std.specs.Prelude.{◌≡◌, ℕ, List, Some}
use Rattle.cil_syntax.specs.declared.program.Statement.{Statement}
use Rattle.cil_syntax.specs.declared.term.Word.{Word}
use Rattle.cil_syntax.specs.Said.{args_of}
use Rattle.cil_blocks.specs.Contents.{first_word}
use Rattle.cil_macros.specs.declared.meant.Argument.{Argument}
use Rattle.cil_macros.specs.declared.placed_word.PlacedWord.{PlacedWord}
use Rattle.cil_macros.specs.declared.scene.Scene.{Scene}
use Rattle.cil_macros.specs.Calls.{Unfolded, unfolded}
use Rattle.cil_macros.specs.Macros.{all_standing}
use Rattle.cil_macros.specs.Meant.{AreArguments}
use Rattle.cil_macros.specs.Parameters.{macro_parameters}
use Rattle.cil_macros.specs.Placed.{Placed}
use Rattle.cil_macros.specs.Scene.{placed_of_scene}
use Rattle.cil_macros.specs.Walks.{written_in}

-- it is the first word of what is placed at a place, and is looked up there
pub record IsFront (at : ℕ) (p : Placed) (front : PlacedWord) : Type 0 where
  pub word : Word
  pub first : first_word p.standing.statement.statement.args ≡ Some word
  pub is : front ≡ record { word = word; scope = Some at }

-- what is placed is a call that is unfolded, of this macro with these arguments
pub record IsUnfolding (s : Scene) (p : Placed) (called : Statement) (arguments : List Argument) : Type 0 where
  pub opened : Unfolded
  pub is : unfolded (written_in s.spaces.now) (all_standing s.spaces.now) p ≡ Some opened
  pub same : args_of called ≡ opened.macro.statement.statement.args
  pub bound : AreArguments (placed_of_scene s) (macro_parameters (args_of called)) opened.bounds arguments

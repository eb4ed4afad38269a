-- What a placed statement says, part by part.
use Rattle.std.specs.Prelude.{◌≡◌, ℕ, true, if◌then◌else◌, List, [], ◌∷◌, Option, Some, None, slice_get}
use Rattle.cil_syntax.specs.declared.term.Word.{Word}
use Rattle.cil_syntax.specs.Scopes.{ScopedWord}
use Rattle.cil_syntax.specs.Terms.{Term}
use Rattle.cil_macros.specs.declared.listed.Part as kept
use Rattle.cil_macros.specs.declared.scene.Scene.{Scene}
use Rattle.cil_macros.specs.Items.{is_text_value, says, says_lists}
use Rattle.cil_macros.specs.Listed.{Part, all_parts_of, parts_of, parts_there, word}
use Rattle.cil_macros.specs.Macros.{all_standing}
use Rattle.cil_macros.specs.Placed.{Placed}
use Rattle.cil_macros.specs.Scene.{placed_of_scene}
use Rattle.cil_macros.specs.Walks.{written_in}

-- the word of a macro
abbrev pub macro_parts : Placed → Option Word → List Part
macro_parts p None = []
macro_parts p (Some w) = word record { at = w.at; bytes = w.bytes; sign = w.sign; scope = p.standing.scope } ∷ []

-- the parts of an argument, if it is no text
abbrev pub value_parts : Term ScopedWord → List Part
value_parts t = if is_text_value t then [] else parts_of t

-- the parts are those of what the statement at a place says, if it is one that may say lists
abbrev pub SaysParts : Scene → ℕ → List kept.Part → Type 0
SaysParts s at xs =
    (p : Placed) → slice_get (placed_of_scene s) at ≡ Some p → says_lists p.standing.statement.statement.keyword ≡ true
    → parts_there (placed_of_scene s) xs
    ≡ all_parts_of (says (written_in s.spaces.now) (all_standing s.spaces.now) p p.standing.statement.statement.keyword p.standing.statement.statement.args)

-- Which statements have words that are looked up where they are placed. No rule needs these words.
use Rattle.std.specs.Prelude.{◌≡◌, Bool, true, false, ◌&&◌, ◌||◌, List, [], ◌∷◌, map}
use Rattle.cil_syntax.specs.Program.{statement_of}
use Rattle.cil_syntax.specs.Written.{Statement}
use Rattle.cil_macros.specs.blocks.Places.{statements_in}
use Rattle.cil_macros.specs.Calls.{is_call}
use Rattle.cil_macros.specs.Item.{all_words_in}
use Rattle.cil_macros.specs.Items.{Kept, says_as_written}

-- there is something in the list
abbrev pub has_some : {X : Type 0} → List X → Bool
has_some [] = false
has_some (x ∷ xs) = true

-- it is a call, or it says what is written and has a word
abbrev pub is_worded : Statement → Bool
is_worded s = is_call s.keyword || (says_as_written s.keyword && has_some (all_words_in s.args))

-- the flags tell it of each written statement
abbrev pub AreWorded : Kept → List Bool → Type 0
AreWorded i flags = flags ≡ map (λ s. is_worded (statement_of s)) (statements_in i.0)

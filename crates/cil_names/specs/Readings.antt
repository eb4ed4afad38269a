-- How the words of a placed statement are looked up. Only this crate and cil_words need these words.
use Rattle.std.specs.Prelude.{◌≡◌, ◌<◌, ℕ, List, length}
use Rattle.cil_syntax.specs.declared.term.Word.{Word}
use Rattle.cil_syntax.specs.Program.{statement_of}
use Rattle.cil_syntax.specs.Scopes.{ScopedWord}
use Rattle.cil_macros.specs.declared.placed_word.PlacedWord.{PlacedWord}
use Rattle.cil_macros.specs.Item.{Item}
use Rattle.cil_macros.specs.Items.{SaysItsWords, all_placed, call_words, item_at, items_in, placed_at, scoped_by, word_at}
use Rattle.cil_macros.specs.Macros.{all_standing}
use Rattle.cil_macros.specs.Walks.{written_in}
use Rattle.cil_names.specs.declared.reading.Reading.{Reading}

-- ---- a placed statement

-- there is such a place, and the statement is what is written there
pub record IsReading (r : Reading) : Type 0 where
  pub within : r.at < length (items_in r.instances.now)
  pub says : statement_of r.statement.now ≡ (placed_at r.instances.now r.at).standing.statement.statement

abbrev pub module_of : Reading → ℕ
module_of r = r.statement.now.at.«module»

-- the item that it is
abbrev pub item_read : Reading → Item
item_read r = item_at r.instances.now r.at

-- what a word of the statement says there
abbrev pub word_read : Reading → Word → ScopedWord
word_read r w = word_at r.instances.now r.at w

-- what it says are the words of what is written
abbrev pub ReadsWords : Reading → Type 0
ReadsWords r = SaysItsWords r.instances.now r.at

-- where it is a call: the word of its macro, and the words of its arguments
abbrev pub words_called : Reading → List ScopedWord
words_called r =
    call_words (written_in r.instances.now.0) (all_standing r.instances.now.0) (placed_at r.instances.now r.at)
    (placed_at r.instances.now r.at).standing.statement.statement.args

-- a word in the scope of the place that it has
abbrev pub scoped_there : Reading → PlacedWord → ScopedWord
scoped_there r w = scoped_by (all_placed r.instances.now) w

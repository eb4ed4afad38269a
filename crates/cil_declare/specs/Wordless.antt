-- Instances of one written statement that has no words. No other crate needs these words.
use Rattle.std.specs.Prelude.{◌≡◌, ℕ, []}
use Rattle.cil_blocks.specs.Entries.{statement_at}
use Rattle.cil_macros.specs.Item.{all_words_in}
use Rattle.cil_macros.specs.Items.{Kept, placed_at}
use Rattle.cil_macros.specs.Walks.{written_in}

-- what is placed there is the statement of this number
abbrev pub IsOfStatement : Kept → ℕ → ℕ → Type 0
IsOfStatement i at k = (placed_at i at).standing.statement ≡ statement_at (written_in i.0) k

-- and no word is in it
pub record IsWordless (i : Kept) (at k : ℕ) : Type 0 where
  pub of : IsOfStatement i at k
  pub wordless : all_words_in (placed_at i at).standing.statement.statement.args ≡ []

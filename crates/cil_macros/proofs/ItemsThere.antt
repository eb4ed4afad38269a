-- What the item at a place says, by the statement that is written.
use Rattle.std.proofs.Common.{◌≡◌, ◌<◌, ℕ, length, true, false, sym, ◌∙◌, ap}
use Rattle.cil_base.specs.Lists.{Lists}
use Rattle.cil_base.specs.Places.{get_contains}
use Rattle.cil_syntax.specs.declared.program.Statement.{Statement}
use Rattle.cil_syntax.specs.declared.term.Word.{Word}
use Rattle.cil_syntax.specs.Program.{statement_of}
use Rattle.cil_syntax.specs.Said.{args_of}
use Rattle.cil_syntax.specs.Scopes.{ScopedWord}
use Rattle.cil_syntax.specs.Written.{Statement as Said}
use Rattle.cil_macros.specs.Calls.{IsPlaced, is_call, placed_cmp}
use Rattle.cil_macros.specs.Item.{Item, all_replaced}
use Rattle.cil_macros.specs.Items.{Kept, SaysItsWords, SaysWords, all_placed, item_at, items_in, may_say_lists, placed_at, said_by, says_as_written, word_at}
use Rattle.cil_macros.specs.Macros.{all_standing}
use Rattle.cil_macros.specs.Placed.{all_filled}
use Rattle.cil_macros.specs.Walks.{written_in}
use Rattle.cil_macros.proofs.ItemLemmas.{placed_there, said_as_written, said_filled, said_named}

-- an item that says what a statement says that is written, each word with what it says
pub record IsSaid (w : Statement) (f : Word → ScopedWord) (x : Item) : Type 0 where
  pub keyword : x.keyword ≡ w.keyword
  pub args : says_as_written w.keyword ≡ true → x.args ≡ all_replaced (λ at. at) f (args_of w)

module _ (i : Kept) (at : ℕ) where
  module _ (s : Statement) (is : statement_of s ≡ (placed_at i at).standing.statement.statement) where
    pub keyword_there : (item_at i at).keyword ≡ s.keyword
    keyword_there = ap (λ (t : Said). t.keyword) (sym is)

    -- the item says what is written, each word with what it says there
    pub said_there : SaysWords i at → says_as_written s.keyword ≡ true → (item_at i at).args ≡ all_replaced (λ at. at) (word_at i at) (args_of s)
    said_there words written =
        said_as_written (written_in i.0) (all_standing i.0) (placed_at i at) words (placed_at i at).standing.statement.statement.keyword (placed_at i at).standing.statement.statement.args
        (ap says_as_written keyword_there ∙ written)
        ∙ ap (λ (t : Said). all_replaced (λ at. at) (word_at i at) t.args) (sym is)

    -- each word as a word, where no list may be
    pub named_there : may_say_lists s.keyword ≡ false → says_as_written s.keyword ≡ true → (item_at i at).args ≡ all_replaced (λ at. at) (word_at i at) (args_of s)
    named_there none written =
        said_named (written_in i.0) (all_standing i.0) (placed_at i at) (placed_at i at).standing.statement.statement.keyword (placed_at i at).standing.statement.statement.args
        (ap says_as_written keyword_there ∙ written) (ap may_say_lists keyword_there ∙ none)
        ∙ ap (λ (t : Said). all_replaced (λ at. at) (word_at i at) t.args) (sym is)

    -- with the lists that are put in, where lists may be
    pub filled_there : may_say_lists s.keyword ≡ true → says_as_written s.keyword ≡ true → (item_at i at).args ≡ all_filled (said_by (written_in i.0) (placed_at i at)) (args_of s)
    filled_there lists written =
        said_filled (written_in i.0) (all_standing i.0) (placed_at i at) (placed_at i at).standing.statement.statement.keyword (placed_at i at).standing.statement.statement.args
        (ap says_as_written keyword_there ∙ written) (ap may_say_lists keyword_there ∙ lists)
        ∙ ap (λ (t : Said). all_filled (said_by (written_in i.0) (placed_at i at)) t.args) (sym is)

    -- it is said so
    pub is_said : SaysWords i at → IsSaid s (word_at i at) (item_at i at)
    is_said words = record { keyword = keyword_there; args = said_there words }

    pub is_named : may_say_lists s.keyword ≡ false → IsSaid s (word_at i at) (item_at i at)
    is_named none = record { keyword = keyword_there; args = named_there none }

    -- ---- words of what is no call

    module _ (no_call : is_call s.keyword ≡ false) where
      its_words : (says_as_written (item_at i at).keyword ≡ true → (item_at i at).args ≡ all_replaced (λ at. at) (word_at i at) (placed_at i at).standing.statement.statement.args) → SaysItsWords i at
      its_words written = record { call = λ e. absurd (let f : true ≡ false = sym e ∙ ap is_call keyword_there ∙ no_call in cc); written = written }

      pub named_words : may_say_lists s.keyword ≡ false → SaysItsWords i at
      named_words none =
          its_words (λ e. said_named (written_in i.0) (all_standing i.0) (placed_at i at) (placed_at i at).standing.statement.statement.keyword (placed_at i at).standing.statement.statement.args e
          (ap may_say_lists keyword_there ∙ none))

      pub said_words : SaysWords i at → SaysItsWords i at
      said_words words =
          its_words (λ e. said_as_written (written_in i.0) (all_standing i.0) (placed_at i at) words (placed_at i at).standing.statement.statement.keyword (placed_at i at).standing.statement.statement.args e)

-- ---- what is placed there

module _ (i : Kept) (at : ℕ) (within : at < length (items_in i)) (placed : Lists placed_cmp (IsPlaced (written_in i.0) (all_standing i.0)) (all_placed i)) where
  pub is_placed_there : IsPlaced (written_in i.0) (all_standing i.0) (placed_at i at)
  is_placed_there = (placed.members (placed_at i at)).0 (get_contains (all_placed i) at (placed_at i at) (placed_there i at within))

-- The statements that take part in a policy: each that is placed, its words with the namespaces that they ask and the
-- arguments put in. CIL Reference Guide, "Call / Macro Statements"; which words a call has is this project's profile.
use Rattle.std.specs.Prelude.{◌≡◌, ℕ, Bool, true, false, ◌||◌, List, [], ◌∷◌, ◌++◌, map, get_or, Option, Some, None}
use Rattle.std.specs.List.{flat_map}
use Rattle.cil_base.specs.Lists.{Lists}
use Rattle.cil_syntax.specs.declared.kind.Keyword.{Keyword}
use Rattle.cil_syntax.specs.declared.kind.Keyword.TheVariants as keywords
use Rattle.cil_syntax.specs.declared.kind.Sign.{Sign}
use Rattle.cil_syntax.specs.declared.kind.Sign.TheVariants as signs
use Rattle.cil_syntax.specs.declared.term.Word.{Word}
use Rattle.cil_syntax.specs.Scopes.{ScopedWord}
use Rattle.cil_syntax.specs.Terms.{Term, Leaf, Name, Form, Terms, nil, cons}
use Rattle.cil_syntax.specs.Written.{IsWritten, Written, written_cmp}
use Rattle.cil_blocks.specs.declared.namespaces.Space.{Space}
use Rattle.cil_blocks.specs.Contents.{Standing, Stands, first_word, standing_cmp, standing_top}
use Rattle.cil_blocks.specs.Entries.{nothing}
use Rattle.cil_blocks.specs.Places.{Standings, spaces_in}
use Rattle.cil_macros.specs.declared.entry.Called.{Called}
use Rattle.cil_macros.specs.declared.placed_word.Said.{Said}
use Rattle.cil_macros.specs.declared.placed_word.Said.TheVariants as said
use Rattle.cil_macros.specs.Calls.{IsPlaced, Unfolded, is_call, placed_cmp, unfolded}
use Rattle.cil_macros.specs.Item.{Item, all_replaced}
use Rattle.cil_macros.specs.Macros.{all_standing}
unfoldable pub use Rattle.cil_macros.specs.Listed.{scope_by, scoped_by}
use Rattle.cil_macros.specs.Listed.{IsWholeList, list_there}
use Rattle.cil_macros.specs.Parameters.{is_text as is_text_op}
use Rattle.cil_macros.specs.Placed.{Bound, Placed, all_filled, condition_there, meaning, placed_standing, put}
unfoldable pub use Rattle.cil_macros.specs.Placed.{as_word, unasked, word_of}
use Rattle.cil_macros.specs.Rounds.{round_of}
use Rattle.cil_macros.specs.Walks.{placed_in, written_in}

-- ---- words

-- a term as the argument that a word stands for. A text serves no place of a word that is looked up
abbrev pub joined_as : Bool → Word → Term ScopedWord → Term ScopedWord
joined_as true w t = Leaf (unasked w)
joined_as false w t = t

abbrev pub said_as : Word → Term ScopedWord → Term ScopedWord
said_as w (Leaf v) = Leaf v
said_as w (Name at name) = Leaf (unasked w)
said_as w (Form at op parts) = joined_as (is_text_op op) w (Form at op parts)

-- what a word of a placed statement says there: the argument for which it stands, or itself in its scope
unfoldable pub said_by : List Written → Placed → Word → Term ScopedWord
said_by ws p w = said_as w (meaning ws p w)

-- the same, as it is told
abbrev pub said_there : List Placed → Sign → Said → Term ScopedWord
said_there ps sign (said.Word w) = Leaf (scoped_by ps w)
said_there ps sign (said.List l) = put sign (list_there ps l.now)

-- where it is a list, its parts are those of its terms
abbrev pub IsWholeSaid : List Placed → Said → Type 0
IsWholeSaid ps (said.Word w) = Unit {0}
IsWholeSaid ps (said.List l) = IsWholeList ps l.now

-- ---- what statements say

-- names and strings are not looked up
abbrev pub is_text : Sign → Bool
is_text signs.Text = true
is_text sign = false

abbrev pub is_text_value : Term ScopedWord → Bool
is_text_value (Leaf w) = is_text w.sign
is_text_value (Name at name) = true
is_text_value (Form at op parts) = is_text_op op

abbrev pub put_unless : Bool → Term ScopedWord → Terms ScopedWord → Terms ScopedWord
put_unless true t ts = ts
put_unless false t ts = cons t ts

-- the arguments that are no texts
unfoldable pub values_of : List Bound → Terms ScopedWord
values_of [] = nil
values_of (b ∷ bs) = put_unless (is_text_value b.value) b.value (values_of bs)

abbrev pub unfolded_values : Option Unfolded → Terms ScopedWord
unfolded_values None = nil
unfolded_values (Some u) = values_of u.bounds

-- the word of the macro: it is looked up where the call stands
abbrev pub with_macro : Placed → Option Word → Terms ScopedWord → Terms ScopedWord
with_macro p None ts = ts
with_macro p (Some w) ts = cons (Leaf record { at = w.at; bytes = w.bytes; sign = w.sign; scope = p.standing.scope }) ts

-- what a call says: the word of its macro and, where it is unfolded, its arguments that are looked up
abbrev pub call_says : List Written → List Standing → Placed → Terms Word → Terms ScopedWord
call_says ws ss p args = with_macro p (first_word args) (unfolded_values (unfolded ws ss p))

-- a statement of this keyword has a place where a list may stand for a name. At each place of the others only a name may, so each word
-- of theirs says a word
abbrev pub may_say_lists : Keyword → Bool
may_say_lists keywords.Allow = true
may_say_lists keywords.AuditAllow = true
may_say_lists keywords.DontAudit = true
may_say_lists keywords.NeverAllow = true
may_say_lists keywords.ClassMapping = true
may_say_lists keywords.SensitivityCategory = true
may_say_lists keywords.CategorySet = true
may_say_lists keywords.Level = true
may_say_lists keywords.LevelRange = true
may_say_lists keywords.UserLevel = true
may_say_lists keywords.UserRange = true
may_say_lists keywords.RangeTransition = true
may_say_lists keywords.Constrain = true
may_say_lists keywords.MlsConstrain = true
may_say_lists keyword = false

abbrev pub says_there : List Written → Placed → Bool → Terms Word → Terms ScopedWord
says_there ws p true args = all_filled (said_by ws p) args
says_there ws p false args = all_replaced (λ at. at) (word_of ws p) args

-- a call says its arguments, which may be lists
abbrev pub says_lists : Keyword → Bool
says_lists keyword = is_call keyword || may_say_lists keyword

-- the words of blockinherit and blockabstract are no words of a policy: they are judged with the blocks
unfoldable pub says : List Written → List Standing → Placed → Keyword → Terms Word → Terms ScopedWord
says ws ss p keywords.BlockInherit args = nil
says ws ss p keywords.BlockAbstract args = nil
says ws ss p keywords.Call args = call_says ws ss p args
says ws ss p keyword args = says_there ws p (may_say_lists keyword) args

-- the other statements say what is written
abbrev pub says_as_written : Keyword → Bool
says_as_written keywords.BlockInherit = false
says_as_written keywords.BlockAbstract = false
says_as_written keywords.Call = false
says_as_written keyword = true

-- ---- the words of a call, where its arguments are words

-- words, one after another
unfoldable pub leaves : List ScopedWord → Terms ScopedWord
leaves [] = nil
leaves (w ∷ ws) = cons (Leaf w) (leaves ws)

abbrev pub listed_unless : {X : Type 0} → Bool → X → List X
listed_unless true x = []
listed_unless false x = x ∷ []

-- the word that an argument is
abbrev pub word_in_argument : Term ScopedWord → List ScopedWord
word_in_argument (Leaf w) = listed_unless (is_text w.sign) w
word_in_argument (Name at name) = []
word_in_argument (Form at op parts) = []

abbrev pub argument_words : List Bound → List ScopedWord
argument_words bs = flat_map (λ (b : Bound). word_in_argument b.value) bs

abbrev pub unfolded_words : Option Unfolded → List ScopedWord
unfolded_words None = []
unfolded_words (Some u) = argument_words u.bounds

abbrev pub macro_words : Placed → Option Word → List ScopedWord
macro_words p None = []
macro_words p (Some w) = record { at = w.at; bytes = w.bytes; sign = w.sign; scope = p.standing.scope } ∷ []

abbrev pub call_words : List Written → List Standing → Placed → Terms Word → List ScopedWord
call_words ws ss p args = macro_words p (first_word args) ++ unfolded_words (unfolded ws ss p)

-- ---- items

-- a placed statement as it takes part in a policy, among all that is placed
abbrev pub item_of : List Written → List Standing → List Placed → Placed → Item
item_of ws ss ps p = record {
  keyword = p.standing.statement.statement.keyword;
  at = p.standing.statement.statement.at;
  space = p.standing.space;
  args = says ws ss p p.standing.statement.statement.keyword p.standing.statement.statement.args;
  round = round_of ps p;
  branch = p.standing.branch;
}

-- the items of modules: those of all that is placed, in order
pub record AreItems (modules : List (List ℕ)) (xs : List Item) : Type 0 where
  pub program : List Written
  pub is_program : Lists written_cmp (IsWritten modules) program
  pub standings : List Standing
  pub are_standings : Lists standing_cmp (Stands program) standings
  pub placed : List Placed
  pub are_placed : Lists placed_cmp (IsPlaced program standings) placed
  pub items : xs ≡ map (item_of program standings placed) placed

-- ---- the same of what is kept: all that stands, and what calls bring

abbrev pub Kept : Type 0
Kept = Standings × List Called

abbrev pub namespaces_in : Kept → List Space
namespaces_in i = spaces_in i.0

abbrev pub all_placed : Kept → List Placed
all_placed i = placed_in i.0 i.1

-- what is placed at a place
abbrev pub placed_at : Kept → ℕ → Placed
placed_at i k = get_or (all_placed i) k (placed_standing (standing_top nothing))

abbrev pub items_in : Kept → List Item
items_in i = map (item_of (written_in i.0) (all_standing i.0) (all_placed i)) (all_placed i)

abbrev pub item_at : Kept → ℕ → Item
item_at i k = item_of (written_in i.0) (all_standing i.0) (all_placed i) (placed_at i k)

-- what a word of the statement at a place says there
abbrev pub word_at : Kept → ℕ → Word → ScopedWord
word_at i k = word_of (written_in i.0) (placed_at i k)

-- each word of it says a word there: it stands for no list
abbrev pub SaysWords : Kept → ℕ → Type 0
SaysWords i k = (w : Word) → said_by (written_in i.0) (placed_at i k) w ≡ Leaf (word_at i k w)

-- what the statement at a place says are the words of what is written: of a call those of its macro and of its arguments
pub record SaysItsWords (i : Kept) (k : ℕ) : Type 0 where
  pub call : is_call (item_at i k).keyword ≡ true
      → (item_at i k).args ≡ leaves (call_words (written_in i.0) (all_standing i.0) (placed_at i k) (placed_at i k).standing.statement.statement.args)
  pub written : says_as_written (item_at i k).keyword ≡ true
      → (item_at i k).args ≡ all_replaced (λ at. at) (word_at i k) (placed_at i k).standing.statement.statement.args

-- the condition of the booleanif at a place
abbrev pub condition_at : Kept → ℕ → Term ScopedWord
condition_at i k = condition_there (written_in i.0) (placed_at i k)

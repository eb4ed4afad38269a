-- What a placed statement says, whether it may say lists or not: what is written, each word as a term that is no name. So its names are
-- where they are written.
use Rattle.std.specs.Prelude.{None}
use Rattle.std.proofs.Common.{◌≡◌, ℕ, Bool, true, false, List, refl, sym, ◌∙◌, ap, subst, inl, inr}
use Rattle.std.proofs.lemmas.Bool.{cases_Bool, true≢false}
use Rattle.cil_faults.specs.declared.spot.Spot.{Spot}
use Rattle.cil_syntax.specs.declared.kind.Keyword.{Keyword}
use Rattle.cil_syntax.specs.declared.program.Statement.{Statement}
use Rattle.cil_syntax.specs.declared.term.Op.{Op}
use Rattle.cil_syntax.specs.declared.term.Word.{Word}
use Rattle.cil_syntax.specs.Forms.{BeginsWithName, name_in_front}
use Rattle.cil_syntax.specs.Program.{statement_of}
use Rattle.cil_syntax.specs.Said.{args_of}
use Rattle.cil_syntax.specs.Scopes.{ScopedWord}
use Rattle.cil_syntax.specs.Terms.{Term, Leaf, Name, Form, Terms, nil, cons}
use Rattle.cil_syntax.specs.Written.{Statement as Said, Written}
use Rattle.cil_blocks.specs.Contents.{Standing}
use Rattle.cil_macros.specs.Items.{Kept, item_at, joined_as, may_say_lists, placed_at, said_as, said_by, says, says_as_written, word_of}
use Rattle.cil_macros.specs.Macros.{all_standing}
use Rattle.cil_macros.specs.Parameters.{is_text}
use Rattle.cil_macros.specs.Placed.{Placed, all_filled, filled, meaning}
use Rattle.cil_macros.specs.Walks.{written_in}
use Rattle.cil_macros.proofs.ItemLemmas.{filled_with_words, said_filled, said_named}
use Rattle.cil_macros.proofs.ItemsThere.{keyword_there}

abbrev pub is_a_name : Term ScopedWord → Bool
is_a_name (Leaf w) = false
is_a_name (Name at name) = true
is_a_name (Form at op parts) = false

-- these terms say what is written, each word as a term that is no name
pub record SaysTerms (args : Terms Word) (xs : Terms ScopedWord) : Type 0 where
  pub term : Word → Term ScopedWord
  pub nameless : (w : Word) → is_a_name (term w) ≡ false
  pub are : xs ≡ all_filled term args

-- ---- what statements say

joined_nameless : (b : Bool) (w : Word) (at : Spot) (op : Op) (parts : Terms ScopedWord) → is_a_name (joined_as b w (Form at op parts)) ≡ false
joined_nameless true w at op parts = refl
joined_nameless false w at op parts = refl

argument_nameless : (w : Word) (t : Term ScopedWord) → is_a_name (said_as w t) ≡ false
argument_nameless w (Leaf v) = refl
argument_nameless w (Name at name) = refl
argument_nameless w (Form at op parts) = joined_nameless (is_text op) w at op parts

said_nameless : (ws : List Written) (p : Placed) (w : Word) → is_a_name (said_by ws p w) ≡ false
unfolding said_by
said_nameless ws p w = argument_nameless w (meaning ws p w)

pub said_terms : (ws : List Written) (ss : List Standing) (p : Placed) (k : Keyword) (args : Terms Word) → says_as_written k ≡ true → SaysTerms args (says ws ss p k args)
said_terms ws ss p k args written = elim (cases_Bool (may_say_lists k)) [
  | inl lists ↦ record { term = said_by ws p; nameless = said_nameless ws p; are = said_filled ws ss p k args written lists }
  | inr named ↦ record {
    term = λ w. Leaf (word_of ws p w);
    nameless = λ w. refl;
    are = said_named ws ss p k args written named ∙ sym (filled_with_words (λ w. Leaf (word_of ws p w)) (word_of ws p) (λ w. refl) args);
  }
]

-- the item at a place
pub terms_there : (i : Kept) (at : ℕ) (s : Statement) → statement_of s ≡ (placed_at i at).standing.statement.statement → says_as_written s.keyword ≡ true → SaysTerms (args_of s) (item_at i at).args
terms_there i at s is written =
    let t = (placed_at i at).standing.statement.statement in
    subst (λ (u : Said). SaysTerms u.args (item_at i at).args) (sym is)
    (said_terms (written_in i.0) (all_standing i.0) (placed_at i at) t.keyword t.args (ap says_as_written (keyword_there i at s is) ∙ written))

-- ---- names in front

none_front : (t : Term ScopedWord) (ts : Terms ScopedWord) → is_a_name t ≡ false → name_in_front (cons t ts) ≡ None
none_front (Leaf w) ts e = refl
none_front (Name at name) ts e = absurd (true≢false e)
none_front (Form at op parts) ts e = refl

abbrev begins_so : Terms ScopedWord → Bool
begins_so nil = false
begins_so (cons t ts) = is_a_name t

module _ (f : Word → Term ScopedWord) where
  name_first : (at : Spot) (name : List ℕ) (rest : Terms Word) → all_filled f (cons (Name at name) rest) ≡ cons (Name at name) (all_filled f rest)
  unfolding filled all_filled
  name_first at name rest = refl

  module _ (nameless : (w : Word) → is_a_name (f w) ≡ false) where
    front_kept : (args : Terms Word) → name_in_front (all_filled f args) ≡ name_in_front args
    unfolding filled all_filled
    front_kept nil = refl
    front_kept (cons (Leaf w) rest) = none_front (f w) (all_filled f rest) (nameless w)
    front_kept (cons (Name at name) rest) = refl
    front_kept (cons (Form at op parts) rest) = refl

    front_filled : (args : Terms Word) (at : Spot) (name : List ℕ) (rest : Terms ScopedWord) → all_filled f args ≡ cons (Name at name) rest → BeginsWithName args at name
    unfolding filled all_filled
    front_filled nil at name rest e = absurd cc
    front_filled (cons (Leaf w) ts) at name rest e = absurd (true≢false (sym (ap begins_so e) ∙ nameless w))
    front_filled (cons (Form bt op parts) ts) at name rest e = absurd cc
    front_filled (cons (Name bt n) ts) at name rest e =
        let p : bt ≡ at = cc in let q : n ≡ name = cc in (ts, λ i. cons (Name (p i) (q i)) ts)

module _ (args : Terms Word) (xs : Terms ScopedWord) (said : SaysTerms args xs) where
  pub same_front : name_in_front xs ≡ name_in_front args
  same_front = ap name_in_front said.are ∙ front_kept said.term said.nameless args

  pub front_said : (at : Spot) (name : List ℕ) → BeginsWithName args at name → BeginsWithName xs at name
  front_said at name begins = (all_filled said.term begins.0, said.are ∙ ap (all_filled said.term) begins.1 ∙ name_first said.term at name begins.0)

  pub front_written : (at : Spot) (name : List ℕ) (rest : Terms ScopedWord) → xs ≡ cons (Name at name) rest → BeginsWithName args at name
  front_written at name rest e = front_filled said.term said.nameless args at name rest (sym said.are ∙ e)

-- What a placed statement says, by what is written; and in which scope its words are looked up.
use Rattle.std.specs.Prelude.{All, Contains}
use Rattle.std.proofs.Common.{◌≡◌, ℕ, ◌≤◌, Bool, true, false, if◌then◌else◌, List, [], ◌∷◌, ◌++◌, drop, map, take, length, get_or, refl, sym, ◌∙◌, ap, subst, append-nil}
use Rattle.std.proofs.lemmas.List.{map-append}
use Rattle.std.proofs.lemmas.Simd.{map-map}
use Rattle.cil_base.specs.Places.{contains_at}
use Rattle.cil_syntax.specs.declared.kind.Keyword.{Keyword}
use Rattle.cil_syntax.specs.declared.kind.Keyword.TheVariants as keywords
use Rattle.cil_syntax.specs.declared.term.Term as rust
use Rattle.cil_syntax.specs.declared.term.Word.{Word}
use Rattle.cil_syntax.specs.Said.{all_said, args_of}
use Rattle.cil_syntax.specs.Scopes.{ScopedWord}
use Rattle.cil_syntax.specs.Terms.{Term, Leaf, Name, Form, Terms, nil, cons}
use Rattle.cil_syntax.specs.Written.{Written}
use Rattle.cil_macros.specs.blocks.Space.{Space}
use Rattle.cil_macros.specs.blocks.Contents.{Standing}
use Rattle.cil_macros.specs.blocks.Namespaces.{space_at}
use Rattle.cil_macros.specs.declared.placed_word.PlacedWord.{PlacedWord}
use Rattle.cil_macros.specs.Calls.{is_call}
use Rattle.cil_macros.specs.Item.{all_replaced, all_words_in, replaced, words_in}
use Rattle.cil_macros.specs.Items.{Kept, all_placed, leaves, namespaces_in, placed_at, says, says_as_written, scope_by, scoped_by}
use Rattle.cil_macros.specs.Macros.{all_standing}
use Rattle.cil_macros.specs.Placed.{Placed}
use Rattle.cil_macros.specs.Walks.{IsScope, written_in}
use Rattle.cil_macros.proofs.ItemLemmas.{abstract_says, inherit_says}
use Rattle.cil_names.specs.declared.reading.Reading.{Reading}
use Rattle.cil_names.specs.Entries.{scoped}
use Rattle.cil_names.specs.Readings.{IsReading, ReadsWords, item_read, word_read, words_called}
use Rattle.cil_names.specs.Resolves.{Word as AWord, all_wanted_in, is_mapping, wanted_in, words_of, words_of_class, words_of_mapping, words_said}
use Rattle.cil_names.specs.Unresolved.{terms_with}

-- ---- words of terms

module _ {L M : Type 0} (f : L → M) where
  mutual
    unfolding replaced all_replaced words_in all_words_in

    words_of_term : (t : Term L) → words_in (replaced (λ at. at) f t) ≡ map f (words_in t)
    words_of_term (Leaf w) = refl
    words_of_term (Name at bytes) = refl
    words_of_term (Form at op parts) = words_of_terms parts

    -- the words of replaced terms are the words, replaced
    pub words_of_terms : (ts : Terms L) → all_words_in (all_replaced (λ at. at) f ts) ≡ map f (all_words_in ts)
    words_of_terms nil = refl
    words_of_terms (cons t ts) =
        ap (λ l. l ++ all_words_in (all_replaced (λ at. at) f ts)) (words_of_term t)
        ∙ ap (λ l. map f (words_in t) ++ l) (words_of_terms ts)
        ∙ sym (map-append f (words_in t) (all_words_in ts))

pub wanted_of_leaves : (ws : List ScopedWord) → all_wanted_in (leaves ws) ≡ map AWord ws
unfolding leaves wanted_in all_wanted_in
wanted_of_leaves [] = refl
wanted_of_leaves (w ∷ ws) = ap (λ l. AWord w ∷ l) (wanted_of_leaves ws)

pub no_words : {L : Type 0} → all_words_in {L = L} nil ≡ []
unfolding all_words_in
no_words = refl

pub none_wanted : all_wanted_in nil ≡ []
unfolding all_wanted_in
none_wanted = refl

-- ---- what a placed statement says

pub says_nothing : (ws : List Written) (ss : List Standing) (p : Placed) (k : Keyword) (args : Terms Word) → is_call k ≡ false → says_as_written k ≡ false → says ws ss p k args ≡ nil
says_nothing ws ss p keywords.BlockAbstract args c e = abstract_says ws ss p args
says_nothing ws ss p keywords.BlockInherit args c e = inherit_says ws ss p args
says_nothing ws ss p k args c e = absurd cc

module _ (r : Reading) (is : IsReading r) where
  abbrev there : Placed
  there = placed_at r.instances.now r.at

  pub keyword_read : (item_read r).keyword ≡ r.statement.now.keyword
  keyword_read = sym (ap (λ s. s.keyword) is.says)

  args_read : there.standing.statement.statement.args ≡ args_of r.statement.now
  args_read = sym (ap (λ s. s.args) is.says)

  pub nothing_read : is_call r.statement.now.keyword ≡ false → says_as_written r.statement.now.keyword ≡ false → (item_read r).args ≡ nil
  nothing_read c e =
      says_nothing (written_in r.instances.now.0) (all_standing r.instances.now.0) there there.standing.statement.statement.keyword there.standing.statement.statement.args
      (ap is_call keyword_read ∙ c) (ap says_as_written keyword_read ∙ e)

  pub written_read : ReadsWords r → says_as_written r.statement.now.keyword ≡ true → (terms : List rust.Term) → terms ≡ r.statement.now.args.items
      → (item_read r).args ≡ all_replaced (λ at. at) (word_read r) (all_said r.statement.now.at.«module» terms)
  written_read words e terms same =
      words.written (ap says_as_written keyword_read ∙ e)
      ∙ ap (all_replaced (λ at. at) (word_read r)) (args_read ∙ ap (all_said r.statement.now.at.«module») (sym same))

-- ---- the words of a statement

call_no_mapping : (k : Keyword) → is_call k ≡ true → is_mapping k ≡ false
call_no_mapping keywords.Call e = refl
call_no_mapping k e = absurd cc

-- the words of a statement that is no classmapping are those of its terms
pub plain_said : (k : Keyword) (args : Terms ScopedWord) → is_mapping k ≡ false → words_said k args ≡ all_wanted_in args
plain_said k args e = ap (λ b. if b then words_of_mapping args else all_wanted_in args) e

pub mapping_said : (k : Keyword) (args : Terms ScopedWord) → is_mapping k ≡ true → words_said k args ≡ words_of_mapping args
mapping_said k args e = ap (λ b. if b then words_of_mapping args else all_wanted_in args) e

-- what says nothing asks for nothing
pub nothing_said : (k : Keyword) (args : Terms ScopedWord) → args ≡ nil → words_said k args ≡ []
nothing_said k args e = ap (words_said k) e ∙ none (is_mapping k)
  where
    none : (b : Bool) → (if b then words_of_mapping nil else all_wanted_in nil) ≡ []
    none true = refl
    none false = none_wanted

-- the words of a call, one after another
pub call_wanted : (r : Reading) → ReadsWords r → is_call (item_read r).keyword ≡ true → (ws : List PlacedWord) → map (scoped_by (all_placed r.instances.now)) ws ≡ words_called r
    → words_of (item_read r) ≡ map (λ w. AWord (scoped_by (all_placed r.instances.now) w)) ws
call_wanted r words called ws same =
    plain_said (item_read r).keyword (item_read r).args (call_no_mapping (item_read r).keyword called)
    ∙ ap all_wanted_in (words.call called ∙ ap leaves (sym same))
    ∙ wanted_of_leaves (map (scoped_by (all_placed r.instances.now)) ws)
    ∙ map-map AWord (scoped_by (all_placed r.instances.now)) ws

-- the words of a classmapping, by its first two terms and those behind them
pub mapping_wanted : (f : Word → ScopedWord) (m : ℕ) (ts : List rust.Term) → words_of_class (terms_with f m (take 2 ts)) ++ all_wanted_in (terms_with f m (drop 2 ts)) ≡ words_of_mapping (terms_with f m ts)
unfolding all_replaced all_wanted_in
mapping_wanted f m [] = refl
mapping_wanted f m (a ∷ []) = append-nil (words_of_class (terms_with f m (a ∷ [])))
mapping_wanted f m (a ∷ b ∷ ts) = refl

-- ---- scopes

all_of : (P : ℕ → Type 0) (ks : List ℕ) → ((k : ℕ) → Contains ks k → P k) → All P ks
all_of P ks h = λ k d within. h (get_or ks k d) (contains_at ks k (get_or ks k d) d within refl)

module _ (ss : List Space) (i : Kept) (same : ss ≡ namespaces_in i) (w : PlacedWord) (ks : List ℕ) (is : IsScope (namespaces_in i) (scope_by (all_placed i) w.scope) ks) where
  pub numbers_within : All (λ k. k ≤ length ss) ks
  numbers_within = all_of (λ k. k ≤ length ss) ks (λ k c. subst (λ (l : List Space). k ≤ length l) (sym same) (is.within k c))

  -- a word in the scope of its place
  pub scoped_so : scoped ss ks w.word ≡ scoped_by (all_placed i) w
  scoped_so = ap (λ sc. record { at = w.word.at; bytes = w.word.bytes; sign = w.word.sign; scope = sc }) (ap (λ (l : List Space). map (space_at l) ks) same ∙ is.is)

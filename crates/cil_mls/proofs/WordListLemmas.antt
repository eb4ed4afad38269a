-- Lists of words, term by term, and what they ask for.
use Rattle.std.proofs.Common.{◌≡◌, ℕ, ◌+◌, ◌<◌, ◌≤◌, true, false, ◌&&◌, List, [], ◌∷◌, drop, get_or, length, map, refl, sym, ◌∙◌, ap, append-nil}
use Rattle.std.proofs.lemmas.Bool.{and_parts, true≢false}
use Rattle.std.proofs.lemmas.List.{drop_all}
use Rattle.std.proofs.lemmas.Simd.{map-map}
use Rattle.cil_base.specs.Places.{drop_at}
use Rattle.std.specs.declared.alloc.Global.{Global}
use Rattle.std.specs.declared.vec.Vec.{Vec}
use Rattle.cil_base.specs.declared.bytes.Bytes.{Bytes}
use Rattle.cil_faults.specs.declared.spot.Spot.{Spot}
use Rattle.cil_syntax.specs.declared.term.LookedUp.{LookedUp}
use Rattle.cil_syntax.specs.declared.term.Op.{Op}
use Rattle.cil_syntax.specs.declared.term.Op.TheVariants as ops
use Rattle.cil_syntax.specs.declared.term.Term as rust
use Rattle.cil_syntax.specs.declared.term.Term.TheVariants as variants
use Rattle.cil_syntax.specs.Said.{all_said, said_of}
use Rattle.cil_syntax.proofs.SaidLemmas.{form_said, leaf_said, name_said}
use Rattle.cil_syntax.specs.Scopes.{ScopedWord}
use Rattle.cil_syntax.specs.Terms.{Leaf, Name, Form, Terms, nil, cons}
use Rattle.cil_attrs.specs.macros.Item.{Item, all_replaced, replaced}
use Rattle.cil_attrs.specs.known.DeclaredKnown.{Known}
use Rattle.cil_attrs.specs.known.Known.{meant_in, row_in, value_in}
use Rattle.cil_attrs.specs.names.Resolves.{Word as AWord, all_wanted_in, is_mapping, wanted_in}
use Rattle.cil_attrs.proofs.names_lemmas.ReadingLemmas.{plain_said}
use Rattle.cil_mls.specs.Ordering.{ListsWords, listed}
use Rattle.cil_mls.specs.Pairs.{are_word_list, are_words, is_listed, is_word, is_word_list}

-- ---- one after another

module _ (m : ℕ) where
  words_cons : (t : rust.Term) (ts : List rust.Term) → are_words (all_said m (t ∷ ts)) ≡ (is_word (said_of m t) && are_words (all_said m ts))
  unfolding are_words
  words_cons t ts = refl

  words_nil : are_words (all_said m []) ≡ true
  unfolding are_words
  words_nil = refl

  module _ (ts : List rust.Term) (i : ℕ) where
    words_here : (t : rust.Term) → i < length ts → t ≡ get_or ts i t → are_words (all_said m (drop i ts)) ≡ (is_word (said_of m t) && are_words (all_said m (drop (i + 1) ts)))
    words_here t l is = ap (λ us. are_words (all_said m us)) (drop_at ts i t t l is) ∙ words_cons t (drop (i + 1) ts)

    -- a part that is a word does not matter, and one that is none tells
    pub next_word : (t : rust.Term) → i < length ts → t ≡ get_or ts i t → is_word (said_of m t) ≡ true → are_words (all_said m (drop i ts)) ≡ are_words (all_said m (drop (i + 1) ts))
    next_word t l is e = words_here t l is ∙ ap (λ b. b && are_words (all_said m (drop (i + 1) ts))) e

    pub no_word : (t : rust.Term) → i < length ts → t ≡ get_or ts i t → is_word (said_of m t) ≡ false → are_words (all_said m (drop i ts)) ≡ false
    no_word t l is e = words_here t l is ∙ ap (λ b. b && are_words (all_said m (drop (i + 1) ts))) e

    pub last_word : length ts ≤ i → are_words (all_said m (drop i ts)) ≡ true
    last_word l = ap (λ us. are_words (all_said m us)) (drop_all i ts l) ∙ words_nil

-- ---- lists of words

pub words_listed : {L : Type 0} (ts : Terms L) → are_words ts ≡ true → (ws : List L) × (ts ≡ listed ws)
unfolding are_words listed
words_listed nil e = ([], refl)
words_listed (cons (Leaf w) ts) e = let r = words_listed ts e in (w ∷ r.0, ap (cons (Leaf w)) r.1)
words_listed (cons (Name at bytes) ts) e = absurd (true≢false (sym e))
words_listed (cons (Form at op parts) ts) e = absurd (true≢false (sym e))

pub listed_words : {L : Type 0} (ws : List L) → are_words (listed ws) ≡ true
unfolding are_words listed
listed_words [] = refl
listed_words (w ∷ ws) = listed_words ws

-- ---- what they ask for

wanted_listed : (ws : List ScopedWord) → all_wanted_in (listed ws) ≡ map AWord ws
unfolding listed wanted_in all_wanted_in
wanted_listed [] = refl
wanted_listed (w ∷ ws) = ap (λ l. AWord w ∷ l) (wanted_listed ws)

list_wanted : (at : Spot) (ws : List ScopedWord) → all_wanted_in (cons (Form at ops.Listed (listed ws)) nil) ≡ map AWord ws
unfolding wanted_in all_wanted_in
list_wanted at ws = append-nil (all_wanted_in (listed ws)) ∙ wanted_listed ws

-- a list of words means what its words mean
pub list_means : (k : Known) (x : Item) (ws : List ScopedWord) → is_mapping x.keyword ≡ false → ListsWords x.args ws → row_in k x ≡ map (meant_in k) ws
list_means k x ws plain (t, says, (at, is)) =
    ap (map (value_in k)) (plain_said x.keyword x.args plain ∙ ap all_wanted_in (says ∙ ap (λ u. cons u nil) is) ∙ list_wanted at ws)
    ∙ map-map (value_in k) AWord ws

-- ---- the test tells

listed_op : (op : Op) → is_listed op ≡ true → op ≡ ops.Listed
listed_op ops.Listed e = refl
listed_op op e = absurd (true≢false (sym e))

pub list_there : {L : Type 0} (ts : Terms L) → are_word_list ts ≡ true → (ws : List L) × ListsWords ts ws
list_there nil e = absurd (true≢false (sym e))
list_there (cons (Leaf w) nil) e = absurd (true≢false (sym e))
list_there (cons (Name at bytes) nil) e = absurd (true≢false (sym e))
list_there (cons (Form at op parts) nil) e =
    let (is, all) = and_parts (is_listed op) (are_words parts) e in
    let r = words_listed parts all in
    (r.0, (Form at op parts, refl, (at, λ i. Form at (listed_op op is i) (r.1 i))))
list_there (cons t (cons u ts)) e = absurd (true≢false (sym e))

pub list_back : {L : Type 0} (ts : Terms L) (ws : List L) → ListsWords ts ws → are_word_list ts ≡ true
list_back ts ws (t, says, (at, is)) = ap are_word_list (says ∙ ap (λ u. cons u nil) is) ∙ listed_words ws

-- and does not ask what words say
module _ {L M : Type 0} (g : Spot → Spot) (f : L → M) where
  words_replaced : (ts : Terms L) → are_words (all_replaced g f ts) ≡ are_words ts
  unfolding are_words all_replaced replaced
  words_replaced nil = refl
  words_replaced (cons (Leaf w) ts) = words_replaced ts
  words_replaced (cons (Name at bytes) ts) = refl
  words_replaced (cons (Form at op parts) ts) = refl

  pub list_replaced : (ts : Terms L) → are_word_list (all_replaced g f ts) ≡ are_word_list ts
  unfolding all_replaced replaced
  list_replaced nil = refl
  list_replaced (cons (Leaf w) nil) = refl
  list_replaced (cons (Name at bytes) nil) = refl
  list_replaced (cons (Form at op parts) nil) = ap (λ b. is_listed op && b) (words_replaced parts)
  list_replaced (cons t (cons u ts)) = refl

-- ---- one term

module _ (m : ℕ) where
  pub not_one : (ts : List rust.Term) → (length ts ≡ 1 → ⊥) → are_word_list (all_said m ts) ≡ false
  not_one [] none = refl
  not_one (t ∷ []) none = absurd (none refl)
  not_one (t ∷ u ∷ ts) none = refl

  pub leaf_is : (t : rust.Term) (w : LookedUp) → t ≡ variants.Leaf w → (is_word (said_of m t) ≡ true) × (is_word_list (said_of m t) ≡ false)
  leaf_is t w is = (ap is_word (ap (said_of m) is ∙ leaf_said m w), ap is_word_list (ap (said_of m) is ∙ leaf_said m w))

  pub name_is : (t : rust.Term) (at : ℕ) (bytes : Bytes) → t ≡ variants.Name at bytes → (is_word (said_of m t) ≡ false) × (is_word_list (said_of m t) ≡ false)
  name_is t at bytes is = (ap is_word (ap (said_of m) is ∙ name_said m at bytes), ap is_word_list (ap (said_of m) is ∙ name_said m at bytes))

  pub form_is : (t : rust.Term) (op : Op) (at : ℕ) (terms : Vec rust.Term Global) → t ≡ variants.Form op at terms
      → (is_word (said_of m t) ≡ false) × (is_word_list (said_of m t) ≡ (is_listed op && are_words (all_said m terms.items)))
  form_is t op at terms is = (ap is_word (ap (said_of m) is ∙ form_said m at op terms), ap is_word_list (ap (said_of m) is ∙ form_said m at op terms))

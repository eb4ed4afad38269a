-- A statement with no word that is looked up means nothing and asks for nothing.
use Rattle.std.specs.Prelude.{◌&&◌, ◌||◌, Some, if◌then◌else◌}
use Rattle.std.specs.Global.{Vec}
use Rattle.std.proofs.Common.{◌≡◌, ℕ, zero, suc, ◌+◌, ◌<◌, ◌≤◌, Bool, true, false, List, [], ◌∷◌, ◌++◌, map, length, drop, get_or, refl, sym, ◌∙◌, ap, inl, inr, arith, drop-cons, take}
use Rattle.std.proofs.lemmas.Bool.{cases_Bool, true≢false}
use Rattle.std.proofs.lemmas.List.{drop_all, map-append, take_more}
use Rattle.std.proofs.lemmas.Simd.{map-map}
use Rattle.cil_syntax.specs.declared.kind.Keyword.{Keyword}
use Rattle.cil_syntax.specs.declared.program.Statement.{Statement as Kept-statement}
use Rattle.cil_syntax.specs.declared.term.LookedUp.{LookedUp}
use Rattle.cil_syntax.specs.declared.term.Op.{Op}
use Rattle.cil_syntax.specs.declared.term.Term as rust
use Rattle.cil_syntax.specs.Program.{program_of, said_by_program, statement_of}
use Rattle.cil_syntax.specs.Said.{all_said, said_of}
use Rattle.cil_syntax.specs.Written.{Statement, Written}
use Rattle.cil_syntax.proofs.SaidLemmas.{form_said, leaf_said, name_said}
use Rattle.cil_macros.specs.blocks.Entries.{nothing, statement_at}
use Rattle.cil_syntax.specs.Forms.{is_class_list}
use Rattle.cil_syntax.specs.Scopes.{ScopedWord}
use Rattle.cil_syntax.specs.Terms.{Term, Leaf, Name, Form, Terms, nil, cons}
use Rattle.cil_macros.specs.Calls.{is_call}
use Rattle.cil_macros.specs.Item.{all_words_in, words_in}
use Rattle.cil_macros.specs.Items.{Kept, item_at, placed_at, says_as_written}
use Rattle.cil_macros.specs.Macros.{all_standing}
use Rattle.cil_macros.specs.Placed.{Placed, all_filled, filled}
use Rattle.cil_macros.specs.Walks.{written_in}
use Rattle.cil_macros.proofs.SaidTerms.{said_terms}
use Rattle.cil_names.specs.Resolves.{all_wanted_in, is_mapping, wanted_in, words_of, words_of_class, words_of_mapping, words_said}
use Rattle.cil_names.specs.Worded.{has_some, is_worded}
use Rattle.cil_names.proofs.ReadingLemmas.{mapping_said, no_words, plain_said, says_nothing}

-- ---- terms

some_first : {X : Type 0} (xs ys : List X) → has_some xs ≡ true → has_some (xs ++ ys) ≡ true
some_first [] ys e = absurd (let f : false ≡ true = e in cc)
some_first (x ∷ xs) ys e = refl

none_first : {X : Type 0} (xs ys : List X) → has_some xs ≡ false → has_some (xs ++ ys) ≡ has_some ys
none_first [] ys e = refl
none_first (x ∷ xs) ys e = absurd (let f : true ≡ false = e in cc)

module _ (m : ℕ) where
  abbrev pub word_within : rust.Term → Bool
  word_within t = has_some (words_in (said_of m t))

  abbrev pub word_among : List rust.Term → Bool
  word_among ts = has_some (all_words_in (all_said m ts))

  none_among : word_among [] ≡ false
  unfolding all_words_in
  none_among = refl

  found_first : (t : rust.Term) (ts : List rust.Term) → word_within t ≡ true → word_among (t ∷ ts) ≡ true
  unfolding all_words_in
  found_first t ts e = some_first (words_in (said_of m t)) (all_words_in (all_said m ts)) e

  not_first : (t : rust.Term) (ts : List rust.Term) → word_within t ≡ false → word_among (t ∷ ts) ≡ word_among ts
  unfolding all_words_in
  not_first t ts e = none_first (words_in (said_of m t)) (all_words_in (all_said m ts)) e

  module _ (ts : List rust.Term) (i : ℕ) where
    module _ (t d : rust.Term) (within : i < length ts) (is : t ≡ get_or ts i d) where
      here : drop i ts ≡ t ∷ drop (i + 1) ts
      here = drop-cons ts i d within ∙ ap (λ y. y ∷ drop (suc i) ts) (sym is) ∙ ap (λ k. t ∷ drop k ts) (let e : suc i ≡ i + 1 = omega arith in e)

      pub one_holds : word_among ts ≡ word_among (drop i ts) → word_within t ≡ true → true ≡ word_among ts
      one_holds so e = sym (so ∙ ap word_among here ∙ found_first t (drop (i + 1) ts) e)

      pub one_lacks : word_among ts ≡ word_among (drop i ts) → word_within t ≡ false → word_among ts ≡ word_among (drop (i + 1) ts)
      one_lacks so e = so ∙ ap word_among here ∙ not_first t (drop (i + 1) ts) e

    pub all_lack : length ts ≤ i → word_among ts ≡ word_among (drop i ts) → false ≡ word_among ts
    all_lack over so = sym (so ∙ ap word_among (drop_all i ts over) ∙ none_among)

  module _ (t : rust.Term) where
    pub leaf_holds : (w : LookedUp) → t ≡ rust.Leaf w → true ≡ word_within t
    unfolding words_in
    leaf_holds w is = sym (ap (λ u. has_some (words_in u)) (ap (said_of m) is ∙ leaf_said m w))

    pub name_lacks : (at : ℕ) (bytes : List ℕ) → t ≡ rust.Name at bytes → false ≡ word_within t
    unfolding words_in
    name_lacks at bytes is = sym (ap (λ u. has_some (words_in u)) (ap (said_of m) is ∙ name_said m at bytes))

    pub form_holds : (at : ℕ) (op : Op) (parts : Vec rust.Term) → t ≡ rust.Form op at parts → word_within t ≡ word_among parts.items
    unfolding words_in
    form_holds at op parts is = ap (λ u. has_some (words_in u)) (ap (said_of m) is ∙ form_said m at op parts)

-- ---- statements, by their numbers

pub one_flag : {X Y : Type 0} (f : X → Y) (xs : List X) (i : ℕ) (x d : X) (y : Y) (old new : List Y) → i < length xs → x ≡ get_or xs i d → old ≡ map f (take i xs) → y ≡ f x → new ≡ old ++ y ∷ []
    → new ≡ map f (take (i + 1) xs)
one_flag f xs i x d y old new within is so same push =
    push ∙ ap (λ l. l ++ y ∷ []) so ∙ ap (λ z. map f (take i xs) ++ z ∷ []) same
    ∙ sym (ap (map f) (take_more xs i d within ∙ ap (λ z. take i xs ++ z ∷ []) (sym is)) ∙ map-append f (take i xs) (x ∷ []))

got : {X Y : Type 0} (f : X → Y) (xs : List X) (d : X) (k : ℕ) → get_or (map f xs) k (f d) ≡ f (get_or xs k d)
got f [] d k = refl
got f (x ∷ xs) d zero = refl
got f (x ∷ xs) d (suc k) = got f xs d k

nothing_worded : is_worded nothing.statement ≡ false
unfolding all_words_in
nothing_worded = refl

pub flag_at : (ss : List Kept-statement) (k : ℕ) → get_or (map (λ s. is_worded (statement_of s)) ss) k false ≡ is_worded (statement_at (program_of ss) k).statement
flag_at ss k =
    ap (λ l. get_or l k false) (sym (map-map is_worded statement_of ss) ∙ ap (map is_worded) (sym (said_by_program ss)) ∙ map-map is_worded (λ (w : Written). w.statement) (program_of ss))
    ∙ ap (get_or (map (λ (w : Written). is_worded w.statement) (program_of ss)) k) (sym nothing_worded)
    ∙ got (λ (w : Written). is_worded w.statement) (program_of ss) nothing k

-- ---- what asks for nothing

pub none_both : {X : Type 0} (xs ys : List X) → xs ++ ys ≡ [] → (xs ≡ []) × (ys ≡ [])
none_both [] ys e = (refl, e)
none_both (x ∷ xs) ys e = absurd cc

class_unasked : (ts : Terms ScopedWord) → all_words_in ts ≡ [] → words_of_class ts ≡ []
unfolding words_in all_words_in
class_unasked nil e = refl
class_unasked (cons (Leaf w) ts) e = absurd cc
class_unasked (cons (Name at bytes) ts) e = refl
class_unasked (cons (Form at op parts) ts) e = refl

mutual
  unfolding words_in all_words_in wanted_in all_wanted_in

  term_unasked : (t : Term ScopedWord) → words_in t ≡ [] → wanted_in t ≡ []
  term_unasked (Leaf w) e = absurd cc
  term_unasked (Name at bytes) e = refl
  term_unasked (Form at op parts) e =
      elim (cases_Bool (is_class_list op)) [
        | inl t ↦ ap (λ b. if b then words_of_class parts else all_wanted_in parts) t ∙ class_unasked parts e
        | inr f ↦ ap (λ b. if b then words_of_class parts else all_wanted_in parts) f ∙ all_unasked parts e
      ]

  all_unasked : (ts : Terms ScopedWord) → all_words_in ts ≡ [] → all_wanted_in ts ≡ []
  all_unasked nil e = refl
  all_unasked (cons t ts) e =
      let (first, rest) = none_both (words_in t) (all_words_in ts) e in
      ap (λ l. l ++ all_wanted_in ts) (term_unasked t first) ∙ all_unasked ts rest

-- a classmapping too
mapping_unasked : (ts : Terms ScopedWord) → all_words_in ts ≡ [] → words_of_mapping ts ≡ []
unfolding words_in all_words_in
mapping_unasked nil e = refl
mapping_unasked (cons m nil) e = class_unasked (cons m nil) e
mapping_unasked (cons m (cons r rest)) e =
    let (first, behind) = none_both (words_in m) (all_words_in (cons r rest)) e in
    let (second, others) = none_both (words_in r) (all_words_in rest) behind in
    ap (λ l. l ++ all_wanted_in rest) (class_unasked (cons m (cons r nil)) (ap (λ l. l ++ all_words_in (cons r nil)) first ∙ ap (λ l. l ++ []) second)) ∙ all_unasked rest others

unasked_said : (k : Keyword) (ts : Terms ScopedWord) → all_words_in ts ≡ [] → words_said k ts ≡ []
unasked_said k ts e = elim (cases_Bool (is_mapping k)) [
  | inl t ↦ mapping_said k ts t ∙ mapping_unasked ts e
  | inr f ↦ plain_said k ts f ∙ all_unasked ts e
]

-- terms without words have none where their words are replaced
module _ {L M : Type 0} (f : L → Term M) where
  mutual
    unfolding words_in all_words_in filled all_filled

    one_filled : (t : Term L) → words_in t ≡ [] → words_in (filled f t) ≡ []
    one_filled (Leaf w) e = absurd cc
    one_filled (Name at bytes) e = refl
    one_filled (Form at op parts) e = none_filled parts e

    none_filled : (ts : Terms L) → all_words_in ts ≡ [] → all_words_in (all_filled f ts) ≡ []
    none_filled nil e = refl
    none_filled (cons t ts) e =
        let (first, rest) = none_both (words_in t) (all_words_in ts) e in
        ap (λ l. l ++ all_words_in (all_filled f ts)) (one_filled t first) ∙ none_filled ts rest

-- ---- the statement at a place

none_some : {X : Type 0} (xs : List X) → has_some xs ≡ false → xs ≡ []
none_some [] e = refl
none_some (x ∷ xs) e = absurd (let f : true ≡ false = e in cc)

module _ (i : Kept) (at : ℕ) (unworded : is_worded (placed_at i at).standing.statement.statement ≡ false) where
  abbrev there : Placed
  there = placed_at i at

  abbrev written : Statement
  written = there.standing.statement.statement

  no_call : is_call written.keyword ≡ false
  no_call = elim (cases_Bool (is_call written.keyword)) [
    | inl t ↦ absurd (true≢false (sym (ap (λ b. b || (says_as_written written.keyword && has_some (all_words_in written.args))) t) ∙ unworded))
    | inr f ↦ f
  ]

  pub no_word : says_as_written written.keyword ≡ true → all_words_in written.args ≡ []
  no_word t =
      none_some (all_words_in written.args)
      (sym (ap (λ b. b || (says_as_written written.keyword && has_some (all_words_in written.args))) no_call ∙ ap (λ b. b && has_some (all_words_in written.args)) t) ∙ unworded)

  -- it says no word
  pub unworded_says : all_words_in (item_at i at).args ≡ []
  unworded_says = elim (cases_Bool (says_as_written written.keyword)) [
    | inl t ↦
        let said = said_terms (written_in i.0) (all_standing i.0) there written.keyword written.args t in
        ap all_words_in said.are ∙ none_filled said.term written.args (no_word t)
    | inr f ↦ ap all_words_in (says_nothing (written_in i.0) (all_standing i.0) there written.keyword written.args no_call f) ∙ no_words
  ]

  -- it asks for nothing
  pub unworded_asks : words_of (item_at i at) ≡ []
  unworded_asks = unasked_said (item_at i at).keyword (item_at i at).args unworded_says

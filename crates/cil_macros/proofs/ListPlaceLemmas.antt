-- Lists where only a name may stand, word by word: of parts as they are written, of arguments, and of the arguments of a call.
use Rattle.std.proofs.Common.{◌≡◌, ◌≤◌, ◌<◌, ◌+◌, ℕ, List, [], ◌∷◌, ◌++◌, length, get_or, drop, refl, sym, ◌∙◌, ap}
use Rattle.std.specs.Prelude.{Bool, true, false, ◌&&◌, ◌||◌, not, Option, Some, None, codes, slice_get}
use Rattle.std.specs.List.{list_any}
use Rattle.std.specs.declared.alloc.Global.{Global}
use Rattle.std.specs.declared.vec.Vec.{Vec}
use Rattle.std.proofs.lemmas.List.{drop_all}
use Rattle.std.proofs.lemmas.List.Folds.{list_any-append}
use Rattle.cil_base.specs.Places.{drop_at}
use Rattle.cil_syntax.specs.declared.kind.Sign.{Sign}
use Rattle.cil_syntax.specs.declared.kind.Sign.TheVariants as signs
use Rattle.cil_syntax.specs.declared.term.LookedUp.{LookedUp}
use Rattle.cil_syntax.specs.declared.term.Op.{Op}
use Rattle.cil_faults.specs.declared.spot.Spot.{Spot}
use Rattle.cil_faults.specs.Spots.{spot_at}
use Rattle.cil_syntax.specs.declared.term.Term as rust
use Rattle.cil_syntax.specs.declared.term.Term.TheVariants as variants
use Rattle.cil_syntax.specs.declared.term.Word.{Word}
use Rattle.cil_syntax.specs.Forms.{parameter_form}
use Rattle.cil_syntax.specs.Said.{all_said, said_of, word_in}
use Rattle.cil_syntax.specs.Scopes.{ScopedWord}
use Rattle.cil_syntax.specs.Spelling.{same_bytes}
use Rattle.cil_syntax.specs.Terms.{Term, Leaf, Name, Form, Terms, nil, cons}
use Rattle.cil_syntax.specs.Written.{Named, Written}
use Rattle.cil_syntax.proofs.SaidLemmas.{form_said, leaf_said, name_said}
use Rattle.cil_macros.specs.declared.listed.Listed.{Listed}
use Rattle.cil_macros.specs.declared.listed.Part.{Part}
use Rattle.cil_macros.specs.declared.meant.Meant.{Meant}
use Rattle.cil_macros.specs.declared.scene.Scene.{Scene}
use Rattle.cil_macros.specs.Calls.{bound}
use Rattle.cil_macros.specs.ExpandFaults.{asked_words, words_as_asked}
use Rattle.cil_macros.specs.Item.{all_words_in, words_in}
use Rattle.cil_macros.specs.ListPlaces.{is_wrong_part, is_wrong_word}
use Rattle.cil_macros.specs.Listed as lists
use Rattle.cil_macros.specs.Listed.{all_parts_of, list_there, part_there, parts_of}
use Rattle.cil_macros.specs.Meant.{kind_sign, meant_in, meant_term}
use Rattle.cil_macros.specs.Parameters.{Parameter, argument_of, cell_in, is_text, argument_kind, may_be_list, parameters_in, read_argument, string_in}
use Rattle.cil_macros.specs.Placed.{Bound, Placed, all_filled, filled, is_misplaced, meaning, put, takes_lists}
use Rattle.cil_macros.specs.Puts.{AsksInside, IsJoinedBy, bare, bare_parts, inside, is_of_sets, list_cell}
use Rattle.cil_macros.specs.Scene.{placed_of_scene}
use Rattle.cil_macros.specs.Walks.{written_in}
use Rattle.cil_macros.proofs.ArgumentLemmas.{first_left, one_parameter}
use Rattle.cil_macros.proofs.ArgumentValues.{every_value, leaf_of_kind, list_of_kind, name_of_kind, value_of_kind}
use Rattle.cil_macros.proofs.OpeningLemmas.{OneBound, not_bound, one_bound}
use Rattle.cil_macros.proofs.ServingLemmas.{no_parameter}
use Rattle.cil_macros.proofs.ValueLemmas.{form_value, kept_text}

or_false : (b : Bool) → (b || false) ≡ b
or_false true = refl
or_false false = refl

true_or : (a b : Bool) → a ≡ true → (a || b) ≡ true
true_or a b e = ap (λ x. x || b) e

false_or : (a b : Bool) → a ≡ false → (a || b) ≡ b
false_or a b e = ap (λ x. x || b) e

-- ---- one word

-- a word or a string is no list
plain_in : (ps : List Placed) (sign : Sign) (at : Spot) (bytes : List ℕ) (o : Option ℕ) → false ≡ is_misplaced sign (meant_in ps sign at bytes o)
plain_in ps sign at bytes None = refl
plain_in ps sign at bytes (Some k) = refl

pub plain_right : (ps : List Placed) (sign : Sign) (m : Meant) → false ≡ is_misplaced sign (meant_term ps sign m)
plain_right ps sign m = plain_in ps sign m.at m.bytes m.scope

put_wrong : (sign : Sign) (at : Spot) (op : Op) (ts : Terms ScopedWord) → (not (is_text op) && not (takes_lists sign)) ≡ is_misplaced sign (put sign (Form at op ts))
put_wrong signs.MappedPermissions at op ts = refl
put_wrong sign at op ts = refl

pub list_wrong : (ps : List Placed) (sign : Sign) (l : Listed) → (not (is_text l.op) && not (takes_lists sign)) ≡ is_misplaced sign (put sign (list_there ps l))
list_wrong ps sign l = put_wrong sign l.at l.op _

-- ---- bare parts

module _ (f : Word → Term ScopedWord) where
  abbrev wrong : Word → Bool
  wrong w = is_misplaced w.sign (f w)

  abbrev wrong_part : lists.Part → Bool
  wrong_part = is_wrong_part f

  mutual
    unfolding filled parts_of words_in

    -- those of a term say what its words do
    pub term_wrong : (t : Term Word) → list_any wrong_part (parts_of (filled bare t)) ≡ list_any wrong (words_in t)
    term_wrong (Leaf w) = refl
    term_wrong (Name at bytes) = refl
    term_wrong (Form at op ts) =
        list_any-append wrong_part (all_parts_of (all_filled bare ts)) (lists.closes ∷ [])
        ∙ or_false (list_any wrong_part (all_parts_of (all_filled bare ts))) ∙ terms_wrong ts

    pub terms_wrong : (ts : Terms Word) → list_any wrong_part (all_parts_of (all_filled bare ts)) ≡ list_any wrong (all_words_in ts)
    terms_wrong nil = refl
    terms_wrong (cons t ts) =
        list_any-append wrong_part (parts_of (filled bare t)) (all_parts_of (all_filled bare ts))
        ∙ (λ i. term_wrong t i || terms_wrong ts i)
        ∙ sym (list_any-append wrong (words_in t) (all_words_in ts))

  -- one part after another
  module _ (parts : List Part) where
    abbrev pub AreRight : ℕ → Type 0
    AreRight i = list_any wrong_part (bare_parts parts) ≡ list_any wrong_part (bare_parts (drop i parts))

    module _ (i : ℕ) (x : Part) (within : i < length parts) (is : x ≡ get_or parts i x) (so : AreRight i) where
      one_here : list_any wrong_part (bare_parts parts) ≡ (wrong_part (part_there [] x) || list_any wrong_part (bare_parts (drop (i + 1) parts)))
      one_here = so ∙ ap (λ xs. list_any wrong_part (bare_parts xs)) (drop_at parts i x x within is)

      pub one_right : wrong_part (part_there [] x) ≡ false → AreRight (i + 1)
      one_right e = one_here ∙ false_or (wrong_part (part_there [] x)) (list_any wrong_part (bare_parts (drop (i + 1) parts))) e

      pub one_wrong : wrong_part (part_there [] x) ≡ true → true ≡ list_any wrong_part (bare_parts parts)
      one_wrong e = sym (one_here ∙ true_or (wrong_part (part_there [] x)) (list_any wrong_part (bare_parts (drop (i + 1) parts))) e)

    pub all_right : (i : ℕ) → length parts ≤ i → AreRight i → false ≡ list_any wrong_part (bare_parts parts)
    all_right i over so = sym (so ∙ ap (λ xs. list_any wrong_part (bare_parts xs)) (drop_all i parts over))

  -- the words of terms, by their parts
  pub by_parts : (ts : Terms Word) (old parts : List Part) → old ≡ [] → bare_parts parts ≡ bare_parts old ++ all_parts_of (all_filled bare ts) → (b : Bool)
      → b ≡ list_any wrong_part (bare_parts parts) → b ≡ list_any wrong (all_words_in ts)
  by_parts ts old parts none e b is = is ∙ ap (list_any wrong_part) (e ∙ ap (λ xs. bare_parts xs ++ all_parts_of (all_filled bare ts)) none) ∙ terms_wrong ts

-- ---- one argument

module _ (s : Scene) (at n : ℕ) (kind : Op) (t : rust.Term) where
  abbrev pub IsJudged : Bool → Type 0
  IsJudged b = (p : Placed) (v : Term Word) → slice_get (placed_of_scene s) at ≡ Some p → read_argument (argument_kind kind) (cell_in (said_of n t)) ≡ Some v
      → b ≡ list_any (is_wrong_word (written_in s.spaces.now) p) (words_in v)

  abbrev any_in : Placed → Term Word → Bool
  any_in p v = list_any (is_wrong_word (written_in s.spaces.now) p) (words_in v)

  read_so : (u : Term Word) → said_of n t ≡ u → (v : Term Word) → read_argument (argument_kind kind) (cell_in (said_of n t)) ≡ Some v → read_argument (argument_kind kind) (cell_in u) ≡ Some v
  read_so u same v e = ap (λ x. read_argument (argument_kind kind) (cell_in x)) (sym same) ∙ e

  text_judged : (p : Placed) (bt : Spot) (bytes : List ℕ) (v : Term Word) → v ≡ kept_text bt bytes → false ≡ any_in p v
  unfolding words_in
  text_judged p bt bytes v e = ap (any_in p) (sym e)

  pub every_judged : (w : LookedUp) → t ≡ variants.Leaf w → true ≡ (is_of_sets kind && same_bytes w.bytes (codes "all")) → IsJudged false
  unfolding words_in
  every_judged w is every = λ p v here e. ap (any_in p) (sym (every_value kind (word_in n w) v every (read_so (Leaf (word_in n w)) (ap (said_of n) is ∙ leaf_said n w) v e)))

  pub word_judged : (w : LookedUp) → t ≡ variants.Leaf w → false ≡ (is_of_sets kind && same_bytes w.bytes (codes "all")) → (own : Word)
      → own ≡ record { at = spot_at n w.at; bytes = w.bytes; sign = kind_sign kind } → (b : Bool)
      → ((p : Placed) → slice_get (placed_of_scene s) at ≡ Some p → b ≡ is_wrong_word (written_in s.spaces.now) p own) → IsJudged b
  unfolding words_in
  word_judged w is other own own_so b judged = λ p v here e.
      judged p here
      ∙ sym (or_false (is_wrong_word (written_in s.spaces.now) p own))
      ∙ ap (λ x. any_in p (Leaf x)) own_so
      ∙ ap (any_in p) (sym (leaf_of_kind kind (word_in n w) v other (read_so (Leaf (word_in n w)) (ap (said_of n) is ∙ leaf_said n w) v e)))

  pub name_judged : (bt : ℕ) (bytes : List ℕ) → t ≡ variants.Name bt bytes → IsJudged false
  name_judged bt bytes is = λ p v here e.
      text_judged p (spot_at n bt) bytes v (name_of_kind kind (spot_at n bt) bytes v (read_so (Name (spot_at n bt) bytes) (ap (said_of n) is ∙ name_said n bt bytes) v e))

  module _ (bt : ℕ) (op : Op) (items : Vec rust.Term Global) (is : t ≡ variants.Form op bt items) where
    abbrev form : Term Word
    form = Form (spot_at n bt) op (all_said n items.items)

    pub string_judged : false ≡ may_be_list kind → IsJudged false
    string_judged plain = λ p v here e.
        text_judged p (spot_at n bt) (string_in (all_said n items.items)) v
        (form_value kind (sym plain) (spot_at n bt) op (all_said n items.items) v (read_so form (ap (said_of n) is ∙ form_said n bt op items) v e))

    pub list_judged : true ≡ may_be_list kind → (slice : List rust.Term) → slice ≡ items.items → (joined : Op)
        → IsJoinedBy (spot_at n bt) (read_argument (argument_kind kind) (list_cell n (spot_at n bt) slice)) joined → (old parts : List Part) → old ≡ []
        → AsksInside (read_argument (argument_kind kind) (list_cell n (spot_at n bt) slice)) old parts → (b : Bool)
        → ((p : Placed) → slice_get (placed_of_scene s) at ≡ Some p → b ≡ list_any (is_wrong_part (meaning (written_in s.spaces.now) p)) (bare_parts parts)) → IsJudged b
    unfolding words_in
    list_judged lists slice same joined joins old parts none asks b judged = λ p v here e.
        let read = ap (λ xs. read_argument (argument_kind kind) (list_cell n (spot_at n bt) xs)) same
        ∙ list_of_kind n kind (spot_at n bt) op items.items v lists (read_so form (ap (said_of n) is ∙ form_said n bt op items) v e) in
        by_parts (meaning (written_in s.spaces.now) p) (inside v) old parts none (asks v read) b (judged p here) ∙ ap (any_in p) (sym (joins v read))

-- ---- the arguments of a call, one after another

module _ (ws : List Written) (p : Placed) (m n : ℕ) (terms arguments : List rust.Term) where
  abbrev left : ℕ → List Parameter
  left i = parameters_in (all_said m (drop i terms))

  abbrev any_asked : List Parameter → Terms Word → Bool
  any_asked xs ts = list_any (is_wrong_word ws p) (asked_words xs ts)

  -- so far none: all depends on the rest, which is bound
  pub record AreSearched (i taken : ℕ) : Type 0 where
    pub rest : List Bound
    pub is : bound ws p (left i) (all_said n (drop taken arguments)) ≡ Some rest
    pub so : any_asked (parameters_in (all_said m terms)) (all_said n arguments) ≡ any_asked (left i) (all_said n (drop taken arguments))

  pub none_searched : (bs : List Bound) → bound ws p (parameters_in (all_said m terms)) (all_said n arguments) ≡ Some bs → AreSearched 0 0
  none_searched bs e = record { rest = bs; is = e; so = refl }

  pub all_searched : (i taken : ℕ) → length terms ≤ i → AreSearched i taken → false ≡ any_asked (parameters_in (all_said m terms)) (all_said n arguments)
  unfolding asked_words
  all_searched i taken over x = sym (x.so ∙ ap (λ ts. any_asked (parameters_in (all_said m ts)) (all_said n (drop taken arguments))) (drop_all i terms over))

  module _ (i taken : ℕ) (t : rust.Term) (within : i < length terms) (is : t ≡ get_or terms i t) (x : AreSearched i taken) where
    here : left i ≡ parameters_in (cons (said_of m t) (all_said m (drop (i + 1) terms)))
    here = ap parameters_in (first_left m terms i t within is)

    pub search_over : parameter_form (said_of m t) ≡ None → AreSearched (i + 1) taken
    search_over e = record {
      rest = x.rest;
      is = ap (λ xs. bound ws p xs (all_said n (drop taken arguments))) (sym same) ∙ x.is;
      so = x.so ∙ ap (λ xs. any_asked xs (all_said n (drop taken arguments))) same;
    }
      where
        same : left i ≡ left (i + 1)
        same = here ∙ no_parameter (said_of m t) (all_said m (drop (i + 1) terms)) e

    module _ (kind : Op) (name : Named) (e : parameter_form (said_of m t) ≡ Some (kind, name)) where
      abbrev its : Parameter
      its = record { kind = kind; name = name }

      one_left : left i ≡ its ∷ left (i + 1)
      one_left = here ∙ one_parameter (said_of m t) kind name (all_said m (drop (i + 1) terms)) e

      pub search_none : drop taken arguments ≡ [] → ⊥
      search_none f = not_bound ws p its (left (i + 1)) x.rest (sym (λ j. bound ws p (one_left j) (all_said n (f j))) ∙ x.is)

      module _ (a : rust.Term) (there : taken < length arguments) (at : a ≡ get_or arguments taken a) where
        bound_here : OneBound ws p its (said_of n a) (left (i + 1)) (all_said n (drop (taken + 1) arguments)) x.rest
        bound_here =
            one_bound ws p its (said_of n a) (left (i + 1)) (all_said n (drop (taken + 1) arguments)) x.rest
            (sym (λ j. bound ws p (one_left j) (first_left n arguments taken a there at j)) ∙ x.is)

        any_here : any_asked (parameters_in (all_said m terms)) (all_said n arguments)
            ≡ (list_any (is_wrong_word ws p) (words_in bound_here.value) || any_asked (left (i + 1)) (all_said n (drop (taken + 1) arguments)))
        unfolding asked_words
        any_here =
            x.so
            ∙ (λ j. any_asked (one_left j) (first_left n arguments taken a there at j))
            ∙ list_any-append (is_wrong_word ws p) (words_as_asked (argument_of its (said_of n a))) (asked_words (left (i + 1)) (all_said n (drop (taken + 1) arguments)))
            ∙ ap (λ o. list_any (is_wrong_word ws p) (words_as_asked o) || any_asked (left (i + 1)) (all_said n (drop (taken + 1) arguments))) bound_here.is

        module _ (b : Bool) (judged : (v : Term Word) → read_argument (argument_kind kind) (cell_in (said_of n a)) ≡ Some v → b ≡ list_any (is_wrong_word ws p) (words_in v)) where
          so_here : b ≡ list_any (is_wrong_word ws p) (words_in bound_here.value)
          so_here = judged bound_here.value (value_of_kind its (said_of n a) bound_here.value bound_here.is)

          pub search_found : b ≡ true → true ≡ any_asked (parameters_in (all_said m terms)) (all_said n arguments)
          search_found f =
              sym (any_here ∙ true_or (list_any (is_wrong_word ws p) (words_in bound_here.value)) (any_asked (left (i + 1)) (all_said n (drop (taken + 1) arguments))) (sym so_here ∙ f))

          pub search_on : b ≡ false → AreSearched (i + 1) (taken + 1)
          search_on f = record {
            rest = bound_here.others;
            is = bound_here.bound_so;
            so = any_here ∙ false_or (list_any (is_wrong_word ws p) (words_in bound_here.value)) (any_asked (left (i + 1)) (all_said n (drop (taken + 1) arguments))) (sym so_here ∙ f);
          }

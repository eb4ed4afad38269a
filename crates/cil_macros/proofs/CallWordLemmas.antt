-- The words of a call: that of its macro, and its arguments one by one.
use Rattle.std.proofs.Common.{◌≡◌, ℕ, ◌+◌, ◌<◌, ◌≤◌, true, false, List, [], ◌∷◌, ◌++◌, length, get_or, map, drop, refl, sym, ◌∙◌, ap, subst, append_assoc}
use Rattle.std.specs.Prelude.{IfOk, Option, Some, None, Result, Ok, Err, slice_get}
use Rattle.std.specs.declared.alloc.Global.{Global}
use Rattle.std.specs.declared.vec.Vec.{Vec}
use Rattle.std.proofs.lemmas.List.{append-nil, drop_all, map-append}
use Rattle.cil_base.specs.Places.{drop_at, in_range, some_same, there_as}
use Rattle.cil_syntax.specs.declared.kind.Keyword.{Keyword}
use Rattle.cil_syntax.specs.declared.kind.Keyword.TheVariants as keywords
use Rattle.cil_syntax.specs.declared.kind.Sign.{Sign}
use Rattle.cil_syntax.specs.declared.program.Statement.{Statement}
use Rattle.cil_syntax.specs.declared.term.Op.{Op}
use Rattle.cil_faults.specs.declared.spot.Spot.{Spot}
use Rattle.cil_syntax.specs.declared.term.Term as rust
use Rattle.cil_syntax.specs.declared.term.Word.{Word}
use Rattle.cil_syntax.specs.Forms.{parameter_form}
use Rattle.cil_syntax.specs.Program.{statement_of}
use Rattle.cil_syntax.specs.Said.{all_said, args_of, said_of}
use Rattle.cil_syntax.specs.Scopes.{ScopedWord}
use Rattle.cil_syntax.specs.Terms.{Terms, cons}
use Rattle.cil_syntax.specs.Written as written
use Rattle.cil_syntax.specs.Written.{Named, Written}
use Rattle.cil_blocks.specs.Contents.{Standing, first_word}
use Rattle.cil_blocks.specs.Entries.{nothing}
use Rattle.cil_blocks.specs.Places.{entries_in}
use Rattle.cil_macros.specs.declared.entry.Body.{Body}
use Rattle.cil_macros.specs.declared.listed.Listed.{Listed}
use Rattle.cil_macros.specs.declared.meant.Argument.{Argument}
use Rattle.cil_macros.specs.declared.meant.Argument.TheVariants as arguments
use Rattle.cil_macros.specs.declared.meant.Meant.{Meant}
use Rattle.cil_macros.specs.declared.openings.Opening.{Opening}
use Rattle.cil_macros.specs.declared.placed_word.PlacedWord.{PlacedWord}
use Rattle.cil_macros.specs.declared.scene.Scene.{Scene}
use Rattle.cil_macros.specs.Calls.{Unfolded, is_call, unfolded}
use Rattle.cil_macros.specs.Items.{Kept, all_placed, argument_words, call_says, call_words, is_text, item_at, items_in, leaves, listed_unless, macro_words, placed_at, says, scoped_by, unfolded_values, unfolded_words, with_macro, word_in_argument}
use Rattle.cil_macros.specs.Macros.{all_standing}
use Rattle.cil_macros.specs.Meant.{AreArguments, bounds_by, kind_sign, meant_in, meant_term, scope_there, value_there}
use Rattle.cil_macros.specs.Parameters.{Parameter, macro_parameters, parameters_in}
use Rattle.cil_macros.specs.Placed.{Placed}
use Rattle.cil_macros.specs.Scene.{IsOpened, placed_of_scene}
use Rattle.cil_macros.specs.Unfoldings.{IsUnfolding}
use Rattle.cil_macros.specs.Walks.{HasNoBody, IsBodyOf, written_in}
use Rattle.cil_macros.proofs.ArgumentLemmas.{first_left, one_parameter}
use Rattle.cil_macros.proofs.CallOpening.{no_macro_there}
use Rattle.cil_macros.proofs.PlacedLemmas.{is_place, placed_so}
use Rattle.cil_macros.proofs.ServingLemmas.{no_parameter}
use Rattle.cil_macros.proofs.WordValues.{AreNoLists, IfUnfolded, plain_bounds, unfolded_are_words}

-- ---- the word of the macro

module _ (ps : List Placed) (at : ℕ) (p : Placed) (here : slice_get ps at ≡ Some p) where
  -- there is none
  pub no_macro_word : (o : Option Word) → o ≡ None → (old : List PlacedWord) → map (scoped_by ps) old ≡ map (scoped_by ps) old ++ macro_words p o
  no_macro_word o e old = sym (append-nil (map (scoped_by ps) old)) ∙ ap (λ x. map (scoped_by ps) old ++ macro_words p x) (sym e)

  -- it is looked up in the scope of the place
  pub its_macro_word : (o : Option Word) (w : Word) → o ≡ Some w → (old new : List PlacedWord) → new ≡ old ++ (record { word = w; scope = Some at }) ∷ []
      → map (scoped_by ps) new ≡ map (scoped_by ps) old ++ macro_words p o
  its_macro_word o w e old new f =
      ap (map (scoped_by ps)) f
      ∙ map-append (scoped_by ps) old ((record { word = w; scope = Some at }) ∷ [])
      ∙ ap (λ (x : Option Placed). map (scoped_by ps) old ++ (record { at = w.at; bytes = w.bytes; sign = w.sign; scope = scope_there x }) ∷ []) here
      ∙ ap (λ x. map (scoped_by ps) old ++ macro_words p x) (sym e)

-- ---- one argument

module _ (ps : List Placed) (sign : Sign) (at : Spot) (bytes : List ℕ) where
  abbrev word_there : ℕ → ScopedWord
  word_there k = record { at = at; bytes = bytes; sign = sign; scope = scope_there (slice_get ps k) }

  text_in : (scope : Option ℕ) → is_text sign ≡ true → word_in_argument (meant_in ps sign at bytes scope) ≡ []
  text_in None e = refl
  text_in (Some k) e = ap (λ b. listed_unless b (word_there k)) e

  word_in : (k : ℕ) → is_text sign ≡ false → word_in_argument (meant_in ps sign at bytes (Some k)) ≡ word_there k ∷ []
  word_in k e = ap (λ b. listed_unless b (word_there k)) e

module _ (kind : Op) (m : Meant) (old : List PlacedWord) where
  -- what an argument adds
  abbrev pub AddsArgument : List PlacedWord → Type 0
  AddsArgument new = (ps : List Placed) → map (scoped_by ps) new ≡ map (scoped_by ps) old ++ word_in_argument (meant_term ps (kind_sign kind) m)

  adds_none : (ps : List Placed) → word_in_argument (meant_term ps (kind_sign kind) m) ≡ [] → map (scoped_by ps) old ≡ map (scoped_by ps) old ++ word_in_argument (meant_term ps (kind_sign kind) m)
  adds_none ps e = sym (append-nil (map (scoped_by ps) old)) ∙ ap (λ xs. map (scoped_by ps) old ++ xs) (sym e)

  -- a text is no word that is looked up
  pub adds_no_text : is_text (kind_sign kind) ≡ true → AddsArgument old
  adds_no_text e ps = adds_none ps (text_in ps (kind_sign kind) m.at m.bytes m.scope e)

  -- nor is a string
  pub adds_no_string : m.scope ≡ None → AddsArgument old
  adds_no_string e ps = adds_none ps (ap (λ o. word_in_argument (meant_in ps (kind_sign kind) m.at m.bytes o)) e)

  -- a word is, in the scope that it got at the call
  pub adds_word : (k : ℕ) → m.scope ≡ Some k → is_text (kind_sign kind) ≡ false → (w : PlacedWord) → w ≡ record { word = record { at = m.at; bytes = m.bytes; sign = kind_sign kind }; scope = Some k }
      → (new : List PlacedWord) → new ≡ old ++ w ∷ [] → AddsArgument new
  adds_word k e f w is new g ps =
      ap (map (scoped_by ps)) g
      ∙ map-append (scoped_by ps) old (w ∷ [])
      ∙ ap (λ (x : PlacedWord). map (scoped_by ps) old ++ scoped_by ps x ∷ []) is
      ∙ ap (λ xs. map (scoped_by ps) old ++ xs) (sym (word_in ps (kind_sign kind) m.at m.bytes k f))
      ∙ ap (λ o. map (scoped_by ps) old ++ word_in_argument (meant_in ps (kind_sign kind) m.at m.bytes o)) (sym e)

-- ---- one after another

no_bounds : (ps : List Placed) (xs : List Parameter) → bounds_by ps xs [] ≡ []
no_bounds ps [] = refl
no_bounds ps (x ∷ xs) = refl

-- what an argument of a kind adds
abbrev pub AddsValue : Op → Argument → List PlacedWord → List PlacedWord → Type 0
AddsValue kind a old new = (ps : List Placed) → map (scoped_by ps) new ≡ map (scoped_by ps) old ++ word_in_argument (value_there ps kind a)

module _ (kind : Op) (a : Argument) (old : List PlacedWord) where
  -- a word or a string adds what it means
  pub adds_plain : (m : Meant) → a ≡ arguments.Plain m → (new : List PlacedWord) → AddsArgument kind m old new → AddsValue kind a old new
  adds_plain m e new adds ps = adds ps ∙ ap (λ x. map (scoped_by ps) old ++ word_in_argument (value_there ps kind x)) (sym e)

  -- a list is no word
  pub adds_no_list : (l : Listed) → a ≡ arguments.List l → AddsValue kind a old old
  adds_no_list l e ps = sym (append-nil (map (scoped_by ps) old)) ∙ ap (λ x. map (scoped_by ps) old ++ word_in_argument (value_there ps kind x)) (sym e)

module _ (m : ℕ) (terms : List rust.Term) (arguments : List Argument) (old : List PlacedWord) where
  abbrev left : ℕ → List Parameter
  left i = parameters_in (all_said m (drop i terms))

  -- so far: with the words of the rest they are those of all
  pub record AreAdded (i taken : ℕ) (words : List PlacedWord) : Type 0 where
    pub so : (ps : List Placed) → map (scoped_by ps) words ++ argument_words (bounds_by ps (left i) (drop taken arguments))
        ≡ map (scoped_by ps) old ++ argument_words (bounds_by ps (parameters_in (all_said m terms)) arguments)

  abbrev pub HasAdded : List PlacedWord → Type 0
  HasAdded new = (ps : List Placed) → map (scoped_by ps) new ≡ map (scoped_by ps) old ++ argument_words (bounds_by ps (parameters_in (all_said m terms)) arguments)

  pub none_added : AreAdded 0 0 old
  none_added = record { so = λ ps. refl }

  module _ (i taken : ℕ) (words : List PlacedWord) (so : AreAdded i taken words) where
    pub all_added : length terms ≤ i → HasAdded words
    all_added over ps =
        sym (append-nil (map (scoped_by ps) words))
        ∙ ap (λ ts. map (scoped_by ps) words ++ argument_words (bounds_by ps (parameters_in (all_said m ts)) (drop taken arguments))) (sym (drop_all i terms over))
        ∙ so.so ps

    pub no_more_added : length arguments ≤ taken → HasAdded words
    no_more_added over ps =
        sym (append-nil (map (scoped_by ps) words))
        ∙ ap (λ bs. map (scoped_by ps) words ++ argument_words bs) (sym (no_bounds ps (left i)))
        ∙ ap (λ ms. map (scoped_by ps) words ++ argument_words (bounds_by ps (left i) ms)) (sym (drop_all taken arguments over))
        ∙ so.so ps

    module _ (t : rust.Term) (within : i < length terms) (is : t ≡ get_or terms i t) where
      here : left i ≡ parameters_in (cons (said_of m t) (all_said m (drop (i + 1) terms)))
      here = ap parameters_in (first_left m terms i t within is)

      pub passed_over : parameter_form (said_of m t) ≡ None → AreAdded (i + 1) taken words
      passed_over e = record {
        so = λ ps. ap (λ xs. map (scoped_by ps) words ++ argument_words (bounds_by ps xs (drop taken arguments)))
            (sym (here ∙ no_parameter (said_of m t) (all_said m (drop (i + 1) terms)) e))
            ∙ so.so ps;
      }

      pub one_added : (kind : Op) (name : Named) → parameter_form (said_of m t) ≡ Some (kind, name) → (a : Argument) → taken < length arguments → a ≡ get_or arguments taken a
          → (new : List PlacedWord) → AddsValue kind a words new → AreAdded (i + 1) (taken + 1) new
      one_added kind name e a there at new adds = record { so = λ ps. by ps }
        where
          its : Parameter
          its = record { kind = kind; name = name }

          by : (ps : List Placed) → map (scoped_by ps) new ++ argument_words (bounds_by ps (left (i + 1)) (drop (taken + 1) arguments))
              ≡ map (scoped_by ps) old ++ argument_words (bounds_by ps (parameters_in (all_said m terms)) arguments)
          by ps =
              let word = word_in_argument (value_there ps kind a) in
              let rest = argument_words (bounds_by ps (left (i + 1)) (drop (taken + 1) arguments)) in
              ap (λ xs. xs ++ rest) (adds ps)
              ∙ append_assoc (map (scoped_by ps) words) word rest
              ∙ ap (λ ms. map (scoped_by ps) words ++ argument_words (bounds_by ps (record { kind = kind; name = name } ∷ left (i + 1)) ms)) (sym (drop_at arguments taken a a there at))
              ∙ ap (λ xs. map (scoped_by ps) words ++ argument_words (bounds_by ps xs (drop taken arguments)))
              (sym (here ∙ one_parameter (said_of m t) kind name (all_said m (drop (i + 1) terms)) e))
              ∙ so.so ps

-- ---- the call at a place

-- what is at the number of its body is that
abbrev pub body_as : (bs xs : List Body) → xs ≡ bs → (at number : ℕ) → IsBodyOf xs at number → (b : Body) → b ≡ get_or bs number b → IsBodyOf bs at number
body_as bs xs e at number x b is =
    let old = ap (λ ys. slice_get ys number) (sym e) ∙ x.is in
    let there = there_as bs number b (in_range bs number x.body old) is in
    record { body = b; is = there; by_call = ap (λ (y : Body). y.call) (some_same b x.body (sym there ∙ old)) ∙ x.by_call }

-- where nothing is, there is none
none_or : (o : Option Unfolded) → ((u : Unfolded) → o ≡ Some u → ⊥) → o ≡ None
none_or None never = refl
none_or (Some u) never = absurd (never u refl)

module _ (s : Scene) (os : List Opening) (are : IsOpened s os) (at : ℕ) (p : Placed) (here : slice_get (placed_of_scene s) at ≡ Some p)
    (within : at < length (entries_in s.spaces.now) + length s.brought.now.entries.items) where
  abbrev ws : List Written
  ws = written_in s.spaces.now

  abbrev ss : List Standing
  ss = all_standing s.spaces.now

  -- a call that has no body is not unfolded
  pub not_opened : HasNoBody s.brought.now.bodies.items at → unfolded ws ss p ≡ None
  not_opened none = none_or (unfolded ws ss p) (λ u e. let x = are.in_turn.all at p u within here e in none x.0 x.1)

  -- what is not unfolded says no argument
  pub says_no_argument : HasNoBody s.brought.now.bodies.items at → unfolded_values (unfolded ws ss p) ≡ leaves (unfolded_words (unfolded ws ss p))
  unfolding leaves
  says_no_argument none = ap unfolded_values (not_opened none) ∙ ap (λ o. leaves (unfolded_words o)) (sym (not_opened none))

  module _ (number : ℕ) (x : IsBodyOf s.brought.now.bodies.items at number) where
    -- one that has a body is
    pub opened_there : (u : Unfolded) × (unfolded ws ss p ≡ Some u) × (slice_get ss x.body.macro_rank ≡ Some u.macro)
    opened_there =
        let b = are.scene.brought.bodies.each number x.body x.is in
        let same = some_same b.call p (sym b.is_call ∙ ap (slice_get (placed_of_scene s)) x.by_call ∙ here) in
        (b.opened, ap (unfolded ws ss) (sym same) ∙ b.is_opened, b.is_macro)

    -- arguments that are no lists are words
    pub says_word_arguments : (o : Opening) → slice_get os number ≡ Some o → o.lists ≡ false → unfolded_values (unfolded ws ss p) ≡ leaves (unfolded_words (unfolded ws ss p))
    says_word_arguments o e none =
        let u = opened_there in
        let opening = are.opened number x.body o x.is e in
        let arguments = opening.arguments p u.0 (ap (slice_get (placed_of_scene s)) x.by_call ∙ here) u.1 in
        unfolded_are_words (unfolded ws ss p)
        (subst IfUnfolded (sym u.1)
        (subst AreNoLists (sym arguments.so) (plain_bounds (placed_of_scene s) (macro_parameters u.0.macro.statement.statement.args) o.arguments.items (sym opening.lists ∙ none))))

    pub macro_missing : ((m : Standing) → slice_get ss x.body.macro_rank ≡ Some m → m.statement ≡ nothing) → ⊥
    macro_missing none = let u = opened_there in no_macro_there ws ss p u.0 u.1 (none u.0.macro u.2)

    pub unfolding_there : (called : Statement) → ((m : Standing) → slice_get ss x.body.macro_rank ≡ Some m → m.statement.statement ≡ statement_of called)
        → (o : Opening) → slice_get os number ≡ Some o → IsUnfolding s p called o.arguments.items
    unfolding_there called there o e =
        let u = opened_there in
        let same : u.0.macro.statement.statement.args ≡ args_of called = ap (λ (y : written.Statement). y.args) (there u.0.macro u.2) in
        record {
          opened = u.0;
          is = u.1;
          same = sym same;
          bound = subst (λ ts. AreArguments (placed_of_scene s) (macro_parameters ts) u.0.bounds o.arguments.items) same
              ((are.opened number x.body o x.is e).arguments p u.0 (ap (slice_get (placed_of_scene s)) x.by_call ∙ here) u.1);
        }

-- the words of the arguments of a call
module _ (s : Scene) (p : Placed) where
  abbrev what : Option Unfolded
  what = unfolded (written_in s.spaces.now) (all_standing s.spaces.now) p

  pub adds_nothing : what ≡ None → (old : List PlacedWord) → map (scoped_by (placed_of_scene s)) old ≡ map (scoped_by (placed_of_scene s)) old ++ unfolded_words what
  adds_nothing none old = sym (append-nil (map (scoped_by (placed_of_scene s)) old)) ∙ ap (λ o. map (scoped_by (placed_of_scene s)) old ++ unfolded_words o) (sym none)

  pub its_arguments : (called : Statement) (ms : List Argument) → IsUnfolding s p called ms
      → argument_words (bounds_by (placed_of_scene s) (macro_parameters (args_of called)) ms) ≡ unfolded_words what
  its_arguments called ms u = ap argument_words (sym u.bound.so) ∙ ap unfolded_words (sym u.is)

-- ---- what a call says

macro_said : (p : Placed) (o : Option Word) (us : List ScopedWord) → with_macro p o (leaves us) ≡ leaves (macro_words p o ++ us)
unfolding leaves
macro_said p None us = refl
macro_said p (Some w) us = refl

says_by_call : (ws : List Written) (ss : List Standing) (p : Placed) (keyword : Keyword) (args : Terms Word) → is_call keyword ≡ true → says ws ss p keyword args ≡ call_says ws ss p args
unfolding says
says_by_call ws ss p keywords.Call args e = refl
says_by_call ws ss p keyword args e = absurd (let f : false ≡ true = e in cc)

-- the words that were kept, where there is memory
pub words_say : {E : Type 0} (j i : Kept) → j ≡ i → (at : ℕ) → at < length (items_in i) → (r : Result (Vec PlacedWord Global) E)
    → IfOk r (λ words. (p : Placed) → slice_get (all_placed j) at ≡ Some p
    → map (scoped_by (all_placed j)) words.items ≡ call_words (written_in j.0) (all_standing j.0) p p.standing.statement.statement.args)
    → IfOk r (λ words. map (scoped_by (all_placed i)) words.items ≡ call_words (written_in i.0) (all_standing i.0) (placed_at i at) (placed_at i at).standing.statement.statement.args)
words_say j i same at within (Ok words) so =
    subst (λ (k : Kept). (p : Placed) → slice_get (all_placed k) at ≡ Some p
    → map (scoped_by (all_placed k)) words.items ≡ call_words (written_in k.0) (all_standing k.0) p p.standing.statement.statement.args) same so (placed_at i at) (placed_so i at (is_place i at within))
words_say j i same at within (Err e) so = tt

-- what a call says whose arguments are words
pub words_of_call : (i : Kept) (at : ℕ) → at < length (items_in i) → unfolded_values (unfolded (written_in i.0) (all_standing i.0) (placed_at i at)) ≡ leaves (unfolded_words (unfolded (written_in i.0) (all_standing i.0) (placed_at i at)))
    → is_call (item_at i at).keyword ≡ true
    → (item_at i at).args ≡ leaves (call_words (written_in i.0) (all_standing i.0) (placed_at i at) (placed_at i at).standing.statement.statement.args)
words_of_call i at within words e =
    let p = placed_at i at in
    says_by_call (written_in i.0) (all_standing i.0) p p.standing.statement.statement.keyword p.standing.statement.statement.args e
    ∙ ap (with_macro p (first_word p.standing.statement.statement.args)) words
    ∙ macro_said p (first_word p.standing.statement.statement.args) (unfolded_words (unfolded (written_in i.0) (all_standing i.0) p))

-- the same, by what is kept
pub words_of_call_there : (j i : Kept) → j ≡ i → (at : ℕ) → at < length (items_in i)
    → ((p : Placed) → slice_get (all_placed j) at ≡ Some p → unfolded_values (unfolded (written_in j.0) (all_standing j.0) p) ≡ leaves (unfolded_words (unfolded (written_in j.0) (all_standing j.0) p)))
    → is_call (item_at i at).keyword ≡ true
    → (item_at i at).args ≡ leaves (call_words (written_in i.0) (all_standing i.0) (placed_at i at) (placed_at i at).standing.statement.statement.args)
words_of_call_there j i same at within words =
    words_of_call i at within
    ((subst (λ (k : Kept). (p : Placed) → slice_get (all_placed k) at ≡ Some p → unfolded_values (unfolded (written_in k.0) (all_standing k.0) p) ≡ leaves (unfolded_words (unfolded (written_in k.0) (all_standing k.0) p)))
    same words) (placed_at i at) (placed_so i at (is_place i at within)))

-- What a placed statement says, part by part: a word, the arguments of a call, one after another, and all of it.
use Rattle.std.proofs.Common.{◌≡◌, ◌≤◌, ◌<◌, ◌+◌, ℕ, zero, suc, List, [], ◌∷◌, ◌++◌, length, get_or, drop, refl, sym, ◌∙◌, ap, subst, append_assoc}
use Rattle.std.specs.Prelude.{Bool, true, false, ◌||◌, if◌then◌else◌, Option, Some, None, slice_get}
use Rattle.std.proofs.lemmas.List.{append-nil, drop_all}
use Rattle.cil_base.specs.Places.{drop_at, none_some, some_same}
use Rattle.cil_syntax.specs.declared.kind.Keyword.{Keyword}
use Rattle.cil_syntax.specs.declared.kind.Keyword.TheVariants as keywords
use Rattle.cil_syntax.specs.declared.kind.Sign.{Sign}
use Rattle.cil_syntax.specs.declared.program.Statement.{Statement}
use Rattle.cil_syntax.specs.declared.term.Op.{Op}
use Rattle.cil_faults.specs.declared.spot.Spot.{Spot}
use Rattle.cil_syntax.specs.declared.term.Term as rust
use Rattle.cil_syntax.specs.declared.term.Word.{Word}
use Rattle.cil_syntax.specs.Forms.{parameter_form}
use Rattle.cil_syntax.specs.Said.{all_said, args_of, said_of}
use Rattle.cil_syntax.specs.Scopes.{ScopedWord}
use Rattle.cil_syntax.specs.Terms.{Term, Terms, cons}
use Rattle.cil_syntax.specs.Written.{Named, Written}
use Rattle.cil_blocks.specs.Contents.{Standing, first_word}
use Rattle.cil_blocks.specs.Entries.{nothing}
use Rattle.cil_macros.specs.declared.listed.Listed.{Listed}
use Rattle.cil_macros.specs.declared.listed.Part.{Part}
use Rattle.cil_macros.specs.declared.listed.Part.TheVariants as kept_parts
use Rattle.cil_macros.specs.declared.meant.Argument.{Argument}
use Rattle.cil_macros.specs.declared.meant.Argument.TheVariants as arguments
use Rattle.cil_macros.specs.declared.meant.Meant.{Meant}
use Rattle.cil_macros.specs.declared.placed_word.PlacedWord.{PlacedWord}
use Rattle.cil_macros.specs.declared.placed_word.Said.{Said}
use Rattle.cil_macros.specs.declared.placed_word.Said.TheVariants as said
use Rattle.cil_macros.specs.declared.scene.Scene.{Scene}
use Rattle.cil_macros.specs.Calls.{Unfolded, is_call, unfolded}
use Rattle.cil_macros.specs.Items.{call_says, is_text, is_text_value, may_say_lists, put_unless, said_as, said_by, said_there, says, says_as_written, says_lists, scoped_by, unfolded_values, values_of, with_macro}
use Rattle.cil_macros.specs.Listed as lists
use Rattle.cil_macros.specs.Listed.{all_parts_of, list_there, parts_of, parts_there, word as part_word}
use Rattle.cil_macros.specs.Macros.{all_standing}
use Rattle.cil_macros.specs.Meant.{AreWhole, IsWhole, bounds_by, kind_sign, meant_in, meant_term, scope_there, value_there}
use Rattle.cil_macros.specs.Parameters.{Parameter, is_text as is_text_op, macro_parameters, parameters_in}
use Rattle.cil_macros.specs.Placed.{Placed, all_filled, meaning}
use Rattle.cil_macros.specs.SaidParts.{macro_parts, value_parts}
use Rattle.cil_macros.specs.Scene.{placed_of_scene}
use Rattle.cil_macros.specs.Unfoldings.{IsUnfolding}
use Rattle.cil_macros.specs.Walks.{written_in}
use Rattle.cil_macros.proofs.ArgumentLemmas.{first_left, one_parameter}
use Rattle.cil_macros.proofs.ItemLemmas.{said_filled}
use Rattle.cil_macros.proofs.PartLemmas.{behind_there}
use Rattle.cil_macros.proofs.ServingLemmas.{no_parameter}

-- ---- a word

pub said_by_meaning : (ws : List Written) (p : Placed) (w : Word) → said_as w (meaning ws p w) ≡ said_by ws p w
unfolding said_by
said_by_meaning ws p w = refl

pub word_said : (ps : List Placed) (sign : Sign) (s : Said) (w : PlacedWord) → s ≡ said.Word w → (old new : List Part) → new ≡ old ++ kept_parts.Word w ∷ []
    → parts_there ps new ≡ parts_there ps old ++ parts_of (said_there ps sign s)
unfolding parts_of
word_said ps sign s w is old new e = behind_there ps old (kept_parts.Word w ∷ []) new e ∙ ap (λ x. parts_there ps old ++ parts_of (said_there ps sign x)) (sym is)

-- ---- the word of a macro

module _ (ps : List Placed) (at : ℕ) (p : Placed) (here : slice_get ps at ≡ Some p) where
  pub no_macro_part : (o : Option Word) → o ≡ None → (old : List Part) → parts_there ps old ≡ parts_there ps old ++ macro_parts p o
  no_macro_part o e old = sym (append-nil (parts_there ps old)) ∙ ap (λ x. parts_there ps old ++ macro_parts p x) (sym e)

  pub its_macro_part : (o : Option Word) (w : Word) → o ≡ Some w → (old new : List Part) → new ≡ old ++ kept_parts.Word (record { word = w; scope = Some at }) ∷ []
      → parts_there ps new ≡ parts_there ps old ++ macro_parts p o
  its_macro_part o w e old new f =
      behind_there ps old (kept_parts.Word (record { word = w; scope = Some at }) ∷ []) new f
      ∙ ap (λ (x : Option Placed). parts_there ps old ++ part_word (record { at = w.at; bytes = w.bytes; sign = w.sign; scope = scope_there x }) ∷ []) here
      ∙ ap (λ x. parts_there ps old ++ macro_parts p x) (sym e)

-- ---- one argument

module _ (ps : List Placed) (sign : Sign) (at : Spot) (bytes : List ℕ) where
  text_in : (scope : Option ℕ) → is_text sign ≡ true → value_parts (meant_in ps sign at bytes scope) ≡ []
  text_in None e = refl
  text_in (Some k) e = ap (λ b. if b then [] else parts_of (meant_in ps sign at bytes (Some k))) e

  word_in : (k : ℕ) → is_text sign ≡ false → value_parts (meant_in ps sign at bytes (Some k)) ≡ part_word (record { at = at; bytes = bytes; sign = sign; scope = scope_there (slice_get ps k) }) ∷ []
  unfolding parts_of
  word_in k e = ap (λ b. if b then [] else parts_of (meant_in ps sign at bytes (Some k))) e

module _ (kind : Op) (m : Meant) (old : List Part) where
  abbrev pub PushesWord : List Part → Type 0
  PushesWord new = (ps : List Placed) → parts_there ps new ≡ parts_there ps old ++ value_parts (meant_term ps (kind_sign kind) m)

  pushes_none : (ps : List Placed) → value_parts (meant_term ps (kind_sign kind) m) ≡ [] → parts_there ps old ≡ parts_there ps old ++ value_parts (meant_term ps (kind_sign kind) m)
  pushes_none ps e = sym (append-nil (parts_there ps old)) ∙ ap (λ xs. parts_there ps old ++ xs) (sym e)

  pub pushes_no_text : is_text (kind_sign kind) ≡ true → PushesWord old
  pushes_no_text e ps = pushes_none ps (text_in ps (kind_sign kind) m.at m.bytes m.scope e)

  pub pushes_no_string : m.scope ≡ None → PushesWord old
  pushes_no_string e ps = pushes_none ps (ap (λ o. value_parts (meant_in ps (kind_sign kind) m.at m.bytes o)) e)

  pub pushes_word : (k : ℕ) → m.scope ≡ Some k → is_text (kind_sign kind) ≡ false → (w : PlacedWord) → w ≡ record { word = record { at = m.at; bytes = m.bytes; sign = kind_sign kind }; scope = Some k }
      → (new : List Part) → new ≡ old ++ kept_parts.Word w ∷ [] → PushesWord new
  pushes_word k e f w is new g ps =
      behind_there ps old (kept_parts.Word w ∷ []) new g
      ∙ ap (λ (x : PlacedWord). parts_there ps old ++ part_word (scoped_by ps x) ∷ []) is
      ∙ ap (λ xs. parts_there ps old ++ xs) (sym (word_in ps (kind_sign kind) m.at m.bytes k f))
      ∙ ap (λ o. parts_there ps old ++ value_parts (meant_in ps (kind_sign kind) m.at m.bytes o)) (sym e)

-- what an argument of a kind adds
abbrev pub PushesValue : Op → Argument → List Part → List Part → Type 0
PushesValue kind a old new = (ps : List Placed) → IsWhole ps a → parts_there ps new ≡ parts_there ps old ++ value_parts (value_there ps kind a)

module _ (kind : Op) (a : Argument) (old new : List Part) where
  pub pushes_plain : (m : Meant) → a ≡ arguments.Plain m → PushesWord kind m old new → PushesValue kind a old new
  pushes_plain m e adds ps whole = adds ps ∙ ap (λ x. parts_there ps old ++ value_parts (value_there ps kind x)) (sym e)

  pub pushes_text : (l : Listed) → a ≡ arguments.List l → is_text_op l.op ≡ true → new ≡ old → PushesValue kind a old new
  pushes_text l e text same ps whole =
      ap (parts_there ps) same
      ∙ sym (append-nil (parts_there ps old))
      ∙ ap (λ b. parts_there ps old ++ (if b then [] else parts_of (list_there ps l))) (sym text)
      ∙ ap (λ x. parts_there ps old ++ value_parts (value_there ps kind x)) (sym e)

  pub pushes_list : (l : Listed) → a ≡ arguments.List l → is_text_op l.op ≡ false
      → ((ps : List Placed) → lists.IsWholeList ps l → parts_there ps new ≡ parts_there ps old ++ parts_of (list_there ps l)) → PushesValue kind a old new
  pushes_list l e text adds ps whole =
      adds ps (subst (IsWhole ps) e whole)
      ∙ ap (λ b. parts_there ps old ++ (if b then [] else parts_of (list_there ps l))) (sym text)
      ∙ ap (λ x. parts_there ps old ++ value_parts (value_there ps kind x)) (sym e)

-- ---- one after another

no_bounds : (ps : List Placed) (xs : List Parameter) → bounds_by ps xs [] ≡ []
no_bounds ps [] = refl
no_bounds ps (x ∷ xs) = refl

more_parts : (b : Bool) (t : Term ScopedWord) (ts : Terms ScopedWord) → all_parts_of (put_unless b t ts) ≡ (if b then [] else parts_of t) ++ all_parts_of ts
unfolding parts_of
more_parts true t ts = refl
more_parts false t ts = refl

whole_at : (ps : List Placed) (ms : List Argument) (k : ℕ) (a : Argument) → AreWhole ps ms → slice_get ms k ≡ Some a → IsWhole ps a
whole_at ps [] k a are e = absurd (none_some a e)
whole_at ps (m ∷ ms) zero a are e = subst (IsWhole ps) (some_same m a e) are.0
whole_at ps (m ∷ ms) (suc k) a are e = whole_at ps ms k a are.1 e

module _ (m : ℕ) (terms : List rust.Term) (values : List Argument) (old : List Part) where
  abbrev left : ℕ → List Parameter
  left i = parameters_in (all_said m (drop i terms))

  abbrev rest : List Placed → ℕ → ℕ → List lists.Part
  rest ps i taken = all_parts_of (values_of (bounds_by ps (left i) (drop taken values)))

  -- so far: with the parts of the rest they are those of all
  pub record ArePushed (i taken : ℕ) (parts : List Part) : Type 0 where
    pub so : (ps : List Placed) → AreWhole ps values → parts_there ps parts ++ rest ps i taken ≡ parts_there ps old ++ all_parts_of (values_of (bounds_by ps (parameters_in (all_said m terms)) values))

  abbrev pub HasPushed : List Part → Type 0
  HasPushed new = (ps : List Placed) → AreWhole ps values → parts_there ps new ≡ parts_there ps old ++ all_parts_of (values_of (bounds_by ps (parameters_in (all_said m terms)) values))

  pub none_pushed : ArePushed 0 0 old
  none_pushed = record { so = λ ps whole. refl }

  module _ (i taken : ℕ) (parts : List Part) (so : ArePushed i taken parts) where
    pub all_pushed : length terms ≤ i → HasPushed parts
    unfolding values_of parts_of
    all_pushed over ps whole =
        sym (append-nil (parts_there ps parts))
        ∙ ap (λ ts. parts_there ps parts ++ all_parts_of (values_of (bounds_by ps (parameters_in (all_said m ts)) (drop taken values)))) (sym (drop_all i terms over))
        ∙ so.so ps whole

    pub no_more_pushed : length values ≤ taken → HasPushed parts
    unfolding values_of parts_of
    no_more_pushed over ps whole =
        sym (append-nil (parts_there ps parts))
        ∙ ap (λ bs. parts_there ps parts ++ all_parts_of (values_of bs)) (sym (no_bounds ps (left i)))
        ∙ ap (λ ms. parts_there ps parts ++ all_parts_of (values_of (bounds_by ps (left i) ms))) (sym (drop_all taken values over))
        ∙ so.so ps whole

    module _ (t : rust.Term) (within : i < length terms) (is : t ≡ get_or terms i t) where
      here : left i ≡ parameters_in (cons (said_of m t) (all_said m (drop (i + 1) terms)))
      here = ap parameters_in (first_left m terms i t within is)

      pub over_pushed : parameter_form (said_of m t) ≡ None → ArePushed (i + 1) taken parts
      over_pushed e = record {
        so = λ ps whole.
            ap (λ xs. parts_there ps parts ++ all_parts_of (values_of (bounds_by ps xs (drop taken values)))) (sym (here ∙ no_parameter (said_of m t) (all_said m (drop (i + 1) terms)) e))
            ∙ so.so ps whole;
      }

      pub one_pushed : (kind : Op) (name : Named) → parameter_form (said_of m t) ≡ Some (kind, name) → (a : Argument) → slice_get values taken ≡ Some a → taken < length values
          → a ≡ get_or values taken a → (new : List Part) → PushesValue kind a parts new → ArePushed (i + 1) (taken + 1) new
      unfolding values_of
      one_pushed kind name e a at there same new adds = record { so = λ ps whole. by ps whole }
        where
          its : Parameter
          its = record { kind = kind; name = name }

          by : (ps : List Placed) → AreWhole ps values → parts_there ps new ++ rest ps (i + 1) (taken + 1)
              ≡ parts_there ps old ++ all_parts_of (values_of (bounds_by ps (parameters_in (all_said m terms)) values))
          by ps whole =
              let value = value_there ps kind a in
              let more = values_of (bounds_by ps (left (i + 1)) (drop (taken + 1) values)) in
              ap (λ xs. xs ++ all_parts_of more) (adds ps (whole_at ps values taken a whole at))
              ∙ append_assoc (parts_there ps parts) (value_parts value) (all_parts_of more)
              ∙ ap (λ xs. parts_there ps parts ++ xs) (sym (more_parts (is_text_value value) value more))
              ∙ ap (λ ms. parts_there ps parts ++ all_parts_of (values_of (bounds_by ps (record { kind = kind; name = name } ∷ left (i + 1)) ms))) (sym (drop_at values taken a a there same))
              ∙ ap (λ xs. parts_there ps parts ++ all_parts_of (values_of (bounds_by ps xs (drop taken values))))
              (sym (here ∙ one_parameter (said_of m t) kind name (all_said m (drop (i + 1) terms)) e))
              ∙ so.so ps whole

-- ---- a call

module _ (s : Scene) (p : Placed) where
  abbrev ps : List Placed
  ps = placed_of_scene s

  abbrev what : Option Unfolded
  what = unfolded (written_in s.spaces.now) (all_standing s.spaces.now) p

  pub pushes_nothing : what ≡ None → (old : List Part) → parts_there ps old ≡ parts_there ps old ++ all_parts_of (unfolded_values what)
  unfolding parts_of
  pushes_nothing none old = sym (append-nil (parts_there ps old)) ∙ ap (λ o. parts_there ps old ++ all_parts_of (unfolded_values o)) (sym none)

  pub its_values : (called : Statement) (ms : List Argument) → IsUnfolding s p called ms → values_of (bounds_by ps (macro_parameters (args_of called)) ms) ≡ unfolded_values what
  its_values called ms u = ap values_of (sym u.bound.so) ∙ ap unfolded_values (sym u.is)

-- the word of the macro, and then the arguments
macro_first : (p : Placed) (o : Option Word) (ts : Terms ScopedWord) → all_parts_of (with_macro p o ts) ≡ macro_parts p o ++ all_parts_of ts
unfolding parts_of
macro_first p None ts = refl
macro_first p (Some w) ts = refl

pub call_so : (ws : List Written) (ss : List Standing) (p : Placed) (ps : List Placed) (first more new : List Part) → first ≡ []
    → parts_there ps more ≡ parts_there ps first ++ macro_parts p (first_word p.standing.statement.statement.args)
    → parts_there ps new ≡ parts_there ps more ++ all_parts_of (unfolded_values (unfolded ws ss p))
    → parts_there ps new ≡ all_parts_of (call_says ws ss p p.standing.statement.statement.args)
call_so ws ss p ps first more new none e f =
    f
    ∙ ap (λ xs. xs ++ all_parts_of (unfolded_values (unfolded ws ss p))) (e ∙ ap (λ xs. parts_there ps xs ++ macro_parts p (first_word p.standing.statement.statement.args)) none)
    ∙ sym (macro_first p (first_word p.standing.statement.statement.args) (unfolded_values (unfolded ws ss p)))

-- ---- a statement, by its keyword

-- what may say lists says what is written
lists_written : (k : Keyword) → may_say_lists k ≡ true → says_as_written k ≡ true
lists_written keywords.BlockAbstract e = absurd cc
lists_written keywords.BlockInherit e = absurd cc
lists_written keywords.Call e = absurd cc
lists_written k e = refl

module _ (ws : List Written) (ss : List Standing) (p : Placed) where
  says_its_call : (k : Keyword) (args : Terms Word) → is_call k ≡ true → says ws ss p k args ≡ call_says ws ss p args
  unfolding says
  says_its_call keywords.Call args e = refl
  says_its_call k args e = absurd (let f : false ≡ true = e in cc)

  says_its_words : (k : Keyword) (args : Terms Word) → says_lists k ≡ true → is_call k ≡ false → says ws ss p k args ≡ all_filled (said_by ws p) args
  says_its_words k args e f =
      let lists : may_say_lists k ≡ true = sym (ap (λ b. b || may_say_lists k) f) ∙ e in said_filled ws ss p k args (lists_written k lists) lists

  -- all of it
  abbrev all_of : Written → Terms ScopedWord
  all_of w = says ws ss p w.statement.keyword w.statement.args

  pub nothing_said : p.standing.statement ≡ nothing → [] ≡ all_parts_of (all_of p.standing.statement)
  unfolding says parts_of
  nothing_said none = ap (λ w. all_parts_of (all_of w)) (sym none)

  pub call_said : (xs : List lists.Part) → is_call p.standing.statement.statement.keyword ≡ true → xs ≡ all_parts_of (call_says ws ss p p.standing.statement.statement.args)
      → xs ≡ all_parts_of (all_of p.standing.statement)
  call_said xs e f = f ∙ ap all_parts_of (sym (says_its_call p.standing.statement.statement.keyword p.standing.statement.statement.args e))

  pub words_said : (xs : List lists.Part) → says_lists p.standing.statement.statement.keyword ≡ true → is_call p.standing.statement.statement.keyword ≡ false → (args : Terms Word)
      → args ≡ p.standing.statement.statement.args → xs ≡ all_parts_of (all_filled (said_by ws p) args) → xs ≡ all_parts_of (all_of p.standing.statement)
  words_said xs e f args same g =
      g ∙ ap (λ ts. all_parts_of (all_filled (said_by ws p) ts)) same ∙ ap all_parts_of (sym (says_its_words p.standing.statement.statement.keyword p.standing.statement.statement.args e f))

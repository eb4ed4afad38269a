-- What a word of a placed statement means: where the statement stands, and in a body.
use Rattle.std.proofs.Common.{◌≡◌, ℕ, ◌+◌, ◌<◌, Bool, true, false, if◌then◌else◌, List, length, sym, ◌∙◌, ap, subst, arith}
use Rattle.std.specs.Prelude.{Option, Some, None, find, slice_get}
use Rattle.cil_base.specs.Places.{in_range, some_same}
use Rattle.cil_syntax.specs.declared.term.Word.{Word}
use Rattle.cil_syntax.specs.Scopes.{Scope, ScopedWord}
use Rattle.cil_syntax.specs.Terms.{Term, Leaf}
use Rattle.cil_syntax.specs.Written.{Written, is_macro}
use Rattle.cil_blocks.specs.Contents.{Standing}
use Rattle.cil_blocks.specs.Entries.{statement_at}
use Rattle.cil_blocks.specs.Places.{entries_in}
use Rattle.cil_blocks.proofs.EntryLemmas.{standings_length}
use Rattle.cil_macros.specs.declared.entry.Body as code
use Rattle.cil_macros.specs.declared.meant.Argument.{Argument}
use Rattle.cil_macros.specs.declared.meant.Meant.{Meant}
use Rattle.cil_macros.specs.declared.openings.Opening.{Opening}
use Rattle.cil_macros.specs.declared.scene.Scene.{Scene}
use Rattle.cil_macros.specs.Calls.{home_of}
use Rattle.cil_macros.specs.Items.{said_by, word_of}
use Rattle.cil_macros.specs.Macros.{all_standing}
use Rattle.cil_macros.specs.Meant.{AreArguments, meant_term, put_there, scope_there}
use Rattle.cil_macros.specs.Openings.{IsNumbered, IsOpening}
use Rattle.cil_macros.specs.Parameters.{macro_parameters}
use Rattle.cil_macros.specs.Placed.{Body, Bound, Placed, declares, is_served, meaning, meant_by, scope_in, scope_of}
use Rattle.cil_macros.specs.Scene.{IsArgument, IsKnown, placed_of_scene}
use Rattle.cil_macros.specs.Walks.{written_in}
use Rattle.cil_macros.proofs.BodyLemmas.{IsBrought, is_brought}
use Rattle.cil_macros.proofs.CallLemmas.{stood_at}
use Rattle.cil_macros.proofs.CalledMacros.{is_macro_call}
use Rattle.cil_macros.proofs.WalkLemmas.{number_of_macro}
use Rattle.cil_macros.proofs.WordValues.{AreNoLists, plain_bounds, says_a_word}

-- a word in a scope
abbrev in_scope : Word → Scope → Term ScopedWord
in_scope w scope = Leaf record { at = w.at; bytes = w.bytes; sign = w.sign; scope = scope }

-- the same, as it is kept
abbrev pub kept_word : Word → ℕ → Meant
kept_word w k = record { at = w.at; bytes = w.bytes; scope = Some k }

pub same_word : (w : Word) (k : ℕ) (m : Meant) (bytes : List ℕ) → m ≡ record { at = w.at; bytes = bytes; scope = Some k } → bytes ≡ w.bytes → m ≡ kept_word w k
same_word w k m bytes e f = e ∙ ap (λ (xs : List ℕ). let r : Meant = record { at = w.at; bytes = xs; scope = Some k } in r) f

module _ (ws : List Written) (p : Placed) (w : Word) where
  by_argument : (o : Option Bound) → find (is_served w) p.bounds ≡ o → meaning ws p w ≡ meant_by ws p w o
  unfolding meaning
  by_argument o e = ap (meant_by ws p w) e

  own_scope : (b : Body) (d : Bool) → p.body ≡ Some b → d ≡ declares ws b.macro w.bytes w.sign → scope_of ws p w ≡ (if d then b.home else p.standing.scope)
  own_scope b d e f = ap (λ o. scope_in ws p.standing.scope o w) e ∙ ap (λ c. if c then b.home else p.standing.scope) (sym f)

module _ (s : Scene) (os : List Opening) (at : ℕ) (known : IsKnown s os at) (p : Placed) (here : slice_get (placed_of_scene s) at ≡ Some p) where
  abbrev ws : List Written
  ws = written_in s.spaces.now

  abbrev ss : List Standing
  ss = all_standing s.spaces.now

  abbrev ps : List Placed
  ps = placed_of_scene s

  scope_here : scope_there (slice_get ps at) ≡ p.standing.scope
  scope_here = ap scope_there here

  -- a word of what stands
  pub standing_word : (w : Word) → at < length (entries_in s.spaces.now) → meant_term ps w.sign (kept_word w at) ≡ meaning ws p w
  standing_word w h =
      let m = stood_at s.spaces.now s.brought.now.entries.items at h p here in
      ap (in_scope w) scope_here
      ∙ sym (by_argument ws p w None (ap (λ (q : Placed). find (is_served w) q.bounds) m.2)
      ∙ ap (in_scope w) (ap (λ (q : Placed). scope_of ws q w) m.2 ∙ sym (ap (λ (q : Placed). q.standing.scope) m.2)))

  -- what stands has no arguments, so each word of it says a word
  pub says_words_standing : at < length (entries_in s.spaces.now) → (w : Word) → said_by ws p w ≡ Leaf (word_of ws p w)
  says_words_standing h =
      let m = stood_at s.spaces.now s.brought.now.entries.items at h p here in
      says_a_word ws p (subst AreNoLists (sym (ap (λ (q : Placed). q.bounds) m.2)) tt)

  -- its home
  pub standing_home : at < length (entries_in s.spaces.now) → scope_there (slice_get ps at) ≡ home_of p.standing.scope p.body
  standing_home h =
      let m = stood_at s.spaces.now s.brought.now.entries.items at h p here in
      scope_here ∙ sym (ap (λ (q : Placed). home_of p.standing.scope q.body) m.2)

  -- ---- a word of a body

  module _ (number : ℕ) (n : IsNumbered s.brought.now.entries.items (length (entries_in s.spaces.now)) at number) where
    abbrev pub brought : IsBrought ws ss s.brought.now.entries.items s.brought.now.bodies.items known.scene.brought.bodies (length ss + n.rank) n.called
    brought = is_brought ws ss s.brought.now.entries.items s.brought.now.bodies.items known.scene.brought.bodies n.rank n.called n.is

    pub numbered_body : slice_get s.brought.now.bodies.items number ≡ Some brought.body
    numbered_body = ap (slice_get s.brought.now.bodies.items) (sym n.body) ∙ brought.is_body

    pub number_below : number < length s.brought.now.bodies.items
    number_below = in_range s.brought.now.bodies.items number brought.body numbered_body

    placed_here : p ≡ brought.there
    placed_here =
        let l = standings_length ws (entries_in s.spaces.now) in
        let behind = n.behind in
        some_same p brought.there
        (sym here ∙ ap (slice_get ps) (let e : at ≡ length ss + n.rank = omega (arith, l, behind) in e) ∙ brought.placed)

    body_here : p.body ≡ Some record { macro = brought.so.opened.macro.statement; home = home_of brought.so.call.standing.scope brought.so.call.body }
    body_here = ap (λ (q : Placed). q.body) placed_here ∙ brought.is.body

    module _ (b : code.Body) (e : slice_get s.brought.now.bodies.items number ≡ Some b) (o : Opening) (f : slice_get os number ≡ Some o) where
      same_body : brought.body ≡ b
      same_body = some_same brought.body b (sym numbered_body ∙ e)

      opening : IsOpening ws ss ps b o
      opening = known.opened number b o e f

      is_call : slice_get ps b.call ≡ Some brought.so.call
      is_call = ap (λ (x : code.Body). slice_get ps x.call) (sym same_body) ∙ brought.so.is_call

      pub macro_here : slice_get ss b.macro_rank ≡ Some brought.so.opened.macro
      macro_here = ap (λ (x : code.Body). slice_get ss x.macro_rank) (sym same_body) ∙ brought.so.is_macro

      pub body_home : scope_there (slice_get ps o.home) ≡ home_of p.standing.scope p.body
      body_home = opening.home brought.so.call is_call ∙ sym (ap (home_of p.standing.scope) body_here)

      bounds_here : AreArguments ps (macro_parameters brought.so.opened.macro.statement.statement.args) p.bounds o.arguments.items
      bounds_here =
          subst (λ bs. AreArguments ps (macro_parameters brought.so.opened.macro.statement.statement.args) bs o.arguments.items)
          (sym (ap (λ (q : Placed). q.bounds) placed_here ∙ brought.is.bounds))
          (opening.arguments brought.so.call brought.so.opened is_call brought.so.is_opened)

      -- where no argument is a list, each word says a word
      pub no_lists_in_body : o.lists ≡ false → AreNoLists p.bounds
      no_lists_in_body none =
          subst AreNoLists (sym bounds_here.so)
          (plain_bounds ps (macro_parameters brought.so.opened.macro.statement.statement.args) o.arguments.items (sym opening.lists ∙ none))

      pub says_words_in_body : o.lists ≡ false → (w : Word) → said_by ws p w ≡ Leaf (word_of ws p w)
      says_words_in_body none = says_a_word ws p (no_lists_in_body none)

      module _ (called : ℕ) (stated : (m : Standing) → slice_get ss b.macro_rank ≡ Some m → m.statement ≡ statement_at ws called) where
        macro_stated : brought.so.opened.macro.statement ≡ statement_at ws called
        macro_stated = stated brought.so.opened.macro macro_here

        pub macro_called : is_macro (statement_at ws called).statement.keyword ≡ true
        macro_called = ap (λ (x : Written). is_macro x.statement.keyword) (sym macro_stated) ∙ (is_macro_call ws ss brought.so.call brought.so.opened brought.so.is_opened).macro

        pub macro_below : called < length ws
        macro_below = number_of_macro ws called macro_called

        pub arguments_here : AreArguments ps (macro_parameters (statement_at ws called).statement.args) p.bounds o.arguments.items
        arguments_here =
            subst (λ (x : Written). AreArguments ps (macro_parameters x.statement.args) p.bounds o.arguments.items) macro_stated
            (subst (λ bs. AreArguments ps (macro_parameters brought.so.opened.macro.statement.statement.args) bs o.arguments.items)
            (sym (ap (λ (q : Placed). q.bounds) placed_here ∙ brought.is.bounds))
            (opening.arguments brought.so.call brought.so.opened is_call brought.so.is_opened))

        pub argument_word : (w : Word) → (m : Argument) → IsArgument ps w p.bounds m → put_there ps w.sign m ≡ meaning ws p w
        argument_word w m x = sym (by_argument ws p w (Some x.bound) x.is ∙ x.put_so)

        pub home_word : (w : Word) → find (is_served w) p.bounds ≡ None → true ≡ declares ws (statement_at ws called) w.bytes w.sign
            → meant_term ps w.sign (kept_word w o.home) ≡ meaning ws p w
        home_word w none d =
            ap (in_scope w) (opening.home brought.so.call is_call)
            ∙ sym (by_argument ws p w None none
            ∙ ap (in_scope w) (own_scope ws p w (record { macro = brought.so.opened.macro.statement; home = home_of brought.so.call.standing.scope brought.so.call.body }) true
            body_here (d ∙ ap (λ x. declares ws x w.bytes w.sign) (sym macro_stated))))

        pub place_word : (w : Word) → find (is_served w) p.bounds ≡ None → false ≡ declares ws (statement_at ws called) w.bytes w.sign
            → meant_term ps w.sign (kept_word w at) ≡ meaning ws p w
        place_word w none d =
            ap (in_scope w) scope_here
            ∙ sym (by_argument ws p w None none
            ∙ ap (in_scope w) (own_scope ws p w (record { macro = brought.so.opened.macro.statement; home = home_of brought.so.call.standing.scope brought.so.call.body }) false
            body_here (d ∙ ap (λ x. declares ws x w.bytes w.sign) (sym macro_stated))))

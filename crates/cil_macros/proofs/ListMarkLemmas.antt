-- Marks at the calls with a list where only a name may stand: statement by statement of all that is brought.
use Rattle.std.proofs.Common.{◌≡◌, ◌⊎◌, ◌≤◌, ◌<◌, ◌+◌, ℕ, zero, suc, List, [], ◌∷◌, length, get_or, replicate, set, refl, sym, ◌∙◌, ap, inl, inr, arith, get_or-set_other, get_or-set_same}
use Rattle.std.specs.Prelude.{Bool, true, false, ◌||◌, if◌then◌else◌, Some, None, slice_get}
use Rattle.std.specs.List.{list_any}
use Rattle.std.proofs.lemmas.List.{length-replicate, length-set}
use Rattle.cil_base.specs.Places.{in_range, none_some, some_at, some_same}
use Rattle.cil_syntax.specs.declared.program.Statement.{Statement}
use Rattle.cil_syntax.specs.declared.term.Word.{Word}
use Rattle.cil_syntax.specs.Said.{args_of}
use Rattle.cil_syntax.specs.Terms.{Terms}
use Rattle.cil_syntax.specs.Written.{Written}
use Rattle.cil_blocks.specs.Contents.{Standing}
use Rattle.cil_blocks.specs.Entries.{nothing}
use Rattle.cil_blocks.specs.Places.{entries_in}
use Rattle.cil_macros.specs.declared.entry.Body.{Body}
use Rattle.cil_macros.specs.declared.entry.Called.{Called}
use Rattle.cil_macros.specs.declared.meant.Argument.{Argument}
use Rattle.cil_macros.specs.declared.openings.Opening.{Opening}
use Rattle.cil_macros.specs.declared.scene.Scene.{Scene}
use Rattle.cil_macros.specs.Calls.{bound, is_call, unfolded}
use Rattle.cil_macros.specs.Entries.{IsOf}
use Rattle.cil_macros.specs.ExpandFaults.{asked_words, unfolded_places, words_placed}
use Rattle.cil_macros.specs.Item.{all_words_in}
use Rattle.cil_macros.specs.ListPlaces.{ArePlaces, AreWrongMarks, HasWrong, IsNextMarked, has_wrong_word, is_wrong_word}
use Rattle.cil_macros.specs.Macros.{all_standing}
use Rattle.cil_macros.specs.Openings.{IsNumbered}
use Rattle.cil_macros.specs.Parameters.{call_arguments, macro_parameters}
use Rattle.cil_macros.specs.Placed.{Bound, Placed}
use Rattle.cil_macros.specs.Scene.{IsKnown, IsOpened, placed_of_scene}
use Rattle.cil_macros.specs.Unfoldings.{IsUnfolding}
use Rattle.cil_macros.specs.Walks.{written_in}
use Rattle.cil_macros.proofs.BodyMeaning.{no_lists_in_body, numbered_body}
use Rattle.cil_macros.proofs.BringsLemmas.{unmarked_at}
use Rattle.cil_macros.proofs.CallLemmas.{placed_there}
use Rattle.cil_macros.proofs.CallOpening.{bounds_of_opened}
use Rattle.cil_macros.proofs.WordValues.{meaning_so, no_list_right}

never : true ≡ false → ⊥
never e = cc

same_or_not : (k n : ℕ) → (k ≡ n) ⊎ (k ≡ n → ⊥)
same_or_not k n = grind arith

none_any : {X : Type 0} (f : X → Bool) (xs : List X) → ((x : X) → f x ≡ false) → list_any f xs ≡ false
none_any f [] none = refl
none_any f (x ∷ xs) none = ap (λ b. b || list_any f xs) (none x) ∙ none_any f xs none

first_false : (a b : Bool) → (a || b) ≡ false → (a ≡ false) × (b ≡ false)
first_false true b e = absurd (never e)
first_false false b e = (refl, e)

one_false : {X : Type 0} (f : X → Bool) (xs : List X) (i : ℕ) (x : X) → list_any f xs ≡ false → slice_get xs i ≡ Some x → f x ≡ false
one_false f [] i x e at = absurd (none_some x at)
one_false f (y ∷ ys) zero x e at = ap f (sym (some_same y x at)) ∙ (first_false (f y) (list_any f ys) e).0
one_false f (y ∷ ys) (suc i) x e at = one_false f ys i x (first_false (f y) (list_any f ys) e).1 at

module _ (s : Scene) (os : List Opening) (are : IsOpened s os) where
  abbrev ws : List Written
  ws = written_in s.spaces.now

  abbrev ss : List Standing
  ss = all_standing s.spaces.now

  abbrev ps : List Placed
  ps = placed_of_scene s

  abbrev cs : List Called
  cs = s.brought.now.entries.items

  abbrev bs : List Body
  bs = s.brought.now.bodies.items

  abbrev standing : ℕ
  standing = length (entries_in s.spaces.now)

  of : (j : ℕ) (c : Called) → slice_get cs j ≡ Some c → IsOf ws (length ss) cs bs (length ss + j) c
  of = are.scene.brought.bodies.brought

  pub body_below : (j : ℕ) (c : Called) → slice_get cs j ≡ Some c → c.body < length bs
  body_below j c e = let x = of j c e in in_range bs c.body x.body x.is_body

  -- all that is placed is known
  pub known_at : (at : ℕ) → at < standing + length cs → IsKnown s os at
  known_at at within = record {
    scene = are.scene;
    within = within;
    opened = are.opened;
    first = λ j c behind there. let h = body_below j c there in let many = are.many in omega (arith, h, many);
  }

  -- ---- the words of one statement

  module _ (at : ℕ) (p : Placed) (here : slice_get ps at ≡ Some p) (within : at < standing + length cs) where
    pub nothing_judged : unfolded ws ss p ≡ None → (args : Terms Word) → false ≡ list_any (is_wrong_word ws p) (unfolded_places args (unfolded ws ss p))
    nothing_judged none args = ap (λ o. list_any (is_wrong_word ws p) (unfolded_places args o)) (sym none)

    pub call_judged : (called : Statement) (ms : List Argument) → IsUnfolding s p called ms → (args : Terms Word) → args ≡ p.standing.statement.statement.args → (b : Bool)
        → ((bounds : List Bound) → bound ws p (macro_parameters (args_of called)) (call_arguments args) ≡ Some bounds
        → b ≡ list_any (is_wrong_word ws p) (asked_words (macro_parameters (args_of called)) (call_arguments args)))
        → b ≡ list_any (is_wrong_word ws p) (unfolded_places args (unfolded ws ss p))
    call_judged called ms u args same b judged =
        judged u.opened.bounds ((λ i. bound ws p (macro_parameters (u.same i)) (call_arguments (same i))) ∙ bounds_of_opened ws ss p u.opened u.is)
        ∙ ap (λ ts. list_any (is_wrong_word ws p) (asked_words (macro_parameters ts) (call_arguments args))) u.same
        ∙ ap (λ o. list_any (is_wrong_word ws p) (unfolded_places args o)) (sym u.is)

    -- those of the statement, if this is what is placed there
    abbrev words_by : Written → List Word
    words_by w = if is_call w.statement.keyword then unfolded_places w.statement.args (unfolded ws ss p) else all_words_in w.statement.args

    pub wrong_nowhere : p.standing.statement ≡ nothing → false ≡ has_wrong_word ws ss p
    unfolding all_words_in
    wrong_nowhere none = ap (λ w. list_any (is_wrong_word ws p) (words_by w)) (sym none)

    pub wrong_call : is_call p.standing.statement.statement.keyword ≡ true → (args : Terms Word) → args ≡ p.standing.statement.statement.args → (b : Bool)
        → b ≡ list_any (is_wrong_word ws p) (unfolded_places args (unfolded ws ss p)) → b ≡ has_wrong_word ws ss p
    wrong_call call args same b judged =
        judged
        ∙ ap (λ ts. list_any (is_wrong_word ws p) (unfolded_places ts (unfolded ws ss p))) same
        ∙ ap (λ x. list_any (is_wrong_word ws p) (if x then unfolded_places p.standing.statement.statement.args (unfolded ws ss p) else all_words_in p.standing.statement.statement.args)) (sym call)

    pub wrong_statement : is_call p.standing.statement.statement.keyword ≡ false → (args : Terms Word) → args ≡ p.standing.statement.statement.args → (b : Bool)
        → b ≡ list_any (is_wrong_word ws p) (all_words_in args) → b ≡ has_wrong_word ws ss p
    wrong_statement other args same b judged =
        judged
        ∙ ap (λ ts. list_any (is_wrong_word ws p) (all_words_in ts)) same
        ∙ ap (λ x. list_any (is_wrong_word ws p) (if x then unfolded_places p.standing.statement.statement.args (unfolded ws ss p) else all_words_in p.standing.statement.statement.args)) (sym other)

  -- ---- one mark

  -- where no argument of a body is a list, none is wrong in it
  right_in_body : (j : ℕ) (c : Called) → slice_get cs j ≡ Some c → (o : Opening) → slice_get os c.body ≡ Some o → o.lists ≡ false → (q : Placed) → slice_get ps (standing + j) ≡ Some q
      → has_wrong_word ws ss q ≡ false
  right_in_body j c e o at none q here =
      let h = in_range cs j c e in
      let known = known_at (standing + j) (omega (arith, h)) in
      let n : IsNumbered cs standing (standing + j) c.body = record { rank = j; behind = refl; called = c; is = e; body = refl } in
      let no_lists = no_lists_in_body s os (standing + j) known q here c.body n _ (numbered_body s os (standing + j) known q here c.body n) o at none in
      none_any (is_wrong_word ws q) (words_placed ws ss q) (λ w. no_list_right w.sign _ (meaning_so ws q no_lists w))

  module _ (j : ℕ) (c : Called) (e : slice_get cs j ≡ Some c) (old new : List Bool) where
    within_places : standing + j < standing + length cs
    within_places = let h = in_range cs j c e in omega (arith, h)

    here_placed : (q : Placed) × (slice_get ps (standing + j) ≡ Some q)
    here_placed = placed_there s.spaces.now cs (standing + j) within_places

    passed : new ≡ old → has_wrong_word ws ss here_placed.0 ≡ false → IsNextMarked s j old new
    passed same right = record {
      many = ap length same;
      so = λ k. (
        (λ m. inl (ap (λ xs. get_or xs k false) (sym same) ∙ m)),
        (λ x. elim x [
          | inl m ↦ ap (λ xs. get_or xs k false) same ∙ m
          | inr y ↦ absurd (never (sym y.7 ∙ ap (has_wrong_word ws ss) (some_same y.5 here_placed.0 (sym y.6 ∙ here_placed.1)) ∙ right))
        ]),
      );
    }

    pub next_without_lists : new ≡ old → (o : Opening) → slice_get os c.body ≡ Some o → o.lists ≡ false → IsNextMarked s j old new
    next_without_lists same o at none = passed same (right_in_body j c e o at none here_placed.0 here_placed.1)

    pub next_right : new ≡ old → (b : Bool) → ((p : Placed) → slice_get ps (standing + j) ≡ Some p → b ≡ has_wrong_word ws ss p) → b ≡ false → IsNextMarked s j old new
    next_right same b says f = passed same (sym (says here_placed.0 here_placed.1) ∙ f)

    module _ (body : Body) (is_body : slice_get bs c.body ≡ Some body) where
      pub call_within : length old ≡ standing + length cs → body.call < length old
      call_within many =
          let x = of j c e in
          let b = are.scene.brought.bodies.each c.body body is_body in
          let k = known_at in
          let h = are.in_turn.before c.body body is_body in
          omega (arith, many, h)

      pub next_wrong : (b : Bool) → ((p : Placed) → slice_get ps (standing + j) ≡ Some p → b ≡ has_wrong_word ws ss p) → b ≡ true → body.call < length old → new ≡ set old body.call true
          → IsNextMarked s j old new
      next_wrong b says f within same = record {
        many = ap length same ∙ length-set old body.call true;
        so = λ k. (
          (λ m. elim (same_or_not k body.call) [
            | inl at ↦ inr (c, e, body, is_body, sym at, here_placed.0, here_placed.1, sym (says here_placed.0 here_placed.1) ∙ f)
            | inr other ↦ inl (sym (ap (λ xs. get_or xs k false) same ∙ get_or-set_other old body.call k true false other) ∙ m)
          ]),
          (λ x. elim (same_or_not k body.call) [
            | inl at ↦ ap (λ xs. get_or xs k false) same ∙ ap (λ n. get_or (set old body.call true) n false) at ∙ get_or-set_same old body.call true false within
            | inr other ↦ elim x [
              | inl m ↦ ap (λ xs. get_or xs k false) same ∙ get_or-set_other old body.call k true false other ∙ m
              | inr y ↦
                  let one = some_same c y.0 (sym e ∙ y.1) in
                  let two = some_same body y.2 (sym is_body ∙ ap (λ (d : Called). slice_get bs d.body) one ∙ y.3) in
                  absurd (other (sym (ap (λ (d : Body). d.call) two ∙ y.4)))
            ]
          ]),
        );
      }

  -- ---- all marks

  wider : (j upto k : ℕ) → j ≤ upto → HasWrong s j k → HasWrong s upto k
  wider j upto k h x = let b = x.before in record {
    rank = x.rank;
    before = omega (arith, h, b);
    called = x.called;
    is = x.is;
    body = x.body;
    is_body = x.is_body;
    by_call = x.by_call;
    there = x.there;
    placed = x.placed;
    wrong = x.wrong;
  }

  pub none_wrong : (marks : List Bool) (n : ℕ) → marks ≡ replicate n false → n ≡ standing + length cs → ArePlaces s marks × AreWrongMarks s 0 marks
  none_wrong marks n same many = (
    ap length same ∙ length-replicate n false ∙ many,
    λ k. (
      (λ m. absurd (never (sym m ∙ ap (λ xs. get_or xs k false) same ∙ unmarked_at ws n k))),
      (λ x. let b = x.before in absurd (omega (arith, b))),
    ),
  )

  pub one_more : (j : ℕ) (old new : List Bool) → ArePlaces s old × AreWrongMarks s j old → IsNextMarked s j old new → ArePlaces s new × AreWrongMarks s (j + 1) new
  one_more j old new so next = (
    next.many ∙ so.0,
    λ k. (
      (λ m. elim ((next.so k).0 m) [
        | inl o ↦ wider j (j + 1) k (omega arith) ((so.1 k).0 o)
        | inr y ↦ record { rank = j; before = omega arith; called = y.0; is = y.1; body = y.2; is_body = y.3; by_call = y.4; there = y.5; placed = y.6; wrong = y.7 }
      ]),
      (λ x. (next.so k).1 (elim (same_or_not x.rank j) [
        | inl at ↦ inr (
          x.called,
          ap (slice_get cs) (sym at) ∙ x.is,
          x.body,
          x.is_body,
          x.by_call,
          x.there,
          ap (λ n. slice_get ps (standing + n)) (sym at) ∙ x.placed,
          x.wrong,
        )
        | inr other ↦ inl ((so.1 k).1 (let b = x.before in record {
          rank = x.rank;
          before = grind (arith, b, other);
          called = x.called;
          is = x.is;
          body = x.body;
          is_body = x.is_body;
          by_call = x.by_call;
          there = x.there;
          placed = x.placed;
          wrong = x.wrong;
        }))
      ])),
    ),
  )

  pub all_wrong : (j : ℕ) (marks : List Bool) → length cs ≤ j → AreWrongMarks s j marks → AreWrongMarks s (length cs) marks
  all_wrong j marks over so = λ k. (
    (λ m. let x = (so k).0 m in let h = in_range cs x.rank x.called x.is in record {
      rank = x.rank;
      before = h;
      called = x.called;
      is = x.is;
      body = x.body;
      is_body = x.is_body;
      by_call = x.by_call;
      there = x.there;
      placed = x.placed;
      wrong = x.wrong;
    }),
    (λ x. (so k).1 (wider (length cs) j k over x)),
  )

  -- where no argument is a list, no call is marked
  pub without_lists : list_any (λ (o : Opening). o.lists) os ≡ false → (marks : List Bool) → marks ≡ [] → AreWrongMarks s (length cs) marks
  without_lists none marks same = λ k. (
    (λ m. absurd (never (sym m ∙ ap (λ xs. get_or xs k false) same))),
    (λ x.
        let h = body_below x.rank x.called x.is in
        let many = are.many in
        let o = some_at os x.called.body (omega (arith, h, many)) in
        absurd (never (sym x.wrong ∙ right_in_body x.rank x.called x.is o.0 o.1 (one_false (λ (y : Opening). y.lists) os x.called.body o.0 none o.1) x.there x.placed))),
  )

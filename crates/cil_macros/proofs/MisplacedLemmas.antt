-- The statements of the body of a call are those that are brought with the number of its body. So marks are at the calls with an argument
-- that is a list, or `all`, where only a name may stand.
use Rattle.std.proofs.Common.{◌≡◌, ◌⊎◌, ℕ, zero, suc, ◌+◌, ◌<◌, ◌≤◌, Bool, true, false, List, [], ◌∷◌, ◌++◌, length, refl, sym, ◌∙◌, ap, subst, inl, inr, arith}
use Rattle.std.specs.Prelude.{◌||◌, Contains, Option, None, Some, find, slice_get}
use Rattle.std.specs.List.{list_any}
use Rattle.std.proofs.lemmas.Bool.{cases_lt}
use Rattle.cil_base.specs.Lists.{Lists, contains_cases, contains_here, contains_later, contains_none}
use Rattle.cil_base.specs.Places.{get_at, get_contains, in_range, none_some, same_ends, some_at, some_same}
use Rattle.cil_faults.specs.declared.spot.Spot.{Spot}
use Rattle.cil_syntax.specs.declared.kind.Sign.{Sign}
use Rattle.cil_syntax.specs.declared.kind.Sign.TheVariants as signs
use Rattle.cil_syntax.specs.declared.term.Op.{Op}
use Rattle.cil_syntax.specs.declared.term.Word.{Word}
use Rattle.cil_syntax.specs.Scopes.{ScopedWord}
use Rattle.cil_syntax.specs.Terms.{Term, Leaf, Name, Form, Terms}
use Rattle.cil_syntax.specs.Written.{Written}
use Rattle.cil_blocks.specs.Contents.{IsIn, Standing, Stands, keeps_place}
use Rattle.cil_blocks.specs.Entries.{statement_at}
use Rattle.cil_blocks.specs.OneStanding.{AreApart}
use Rattle.cil_blocks.specs.Places.{entries_in, statements_in}
use Rattle.cil_blocks.proofs.EntryLemmas.{standings_length}
use Rattle.cil_blocks.proofs.Keeping.{conditional_keeps, optional_keeps}
use Rattle.cil_blocks.proofs.ProgramLemmas.{are_apart}
use Rattle.cil_macros.specs.declared.entry.Body as code
use Rattle.cil_macros.specs.declared.entry.Called.{Called}
use Rattle.cil_macros.specs.declared.scene.Scene.{Scene}
use Rattle.cil_macros.specs.Calls.{IsPlaced, Unfolded, called, home_of, in_branch, in_optional, placed_called, placed_cmp, placed_in_branch, placed_in_optional, stands, unfolded}
use Rattle.cil_macros.specs.Entries.{placed_under}
use Rattle.cil_macros.specs.ExpandFaults.{HasMisplaced, IsOfCall, directly, in_its_branch, in_its_optional, words_placed}
use Rattle.cil_macros.specs.ListPlaces.{AreListMarks, AreWrongMarks, HasWrong, has_wrong_word, is_wrong_word}
use Rattle.cil_macros.specs.Macros.{all_standing}
use Rattle.cil_macros.specs.Placed.{Body, Bound, Placed, is_misplaced, is_served, meaning, meant_by, placed_standing, put, put_list}
use Rattle.cil_macros.specs.Scene.{IsScene, placed_of_scene}
use Rattle.cil_macros.specs.Walks.{written_in}
use Rattle.cil_macros.proofs.BodyLemmas.{brought_at, called_statement, is_brought, standing_at}
use Rattle.cil_macros.proofs.CalledMacros.{kept_opens_none}
use Rattle.cil_macros.proofs.EntryLemmas.{placed_length}
use Rattle.cil_macros.proofs.RoundLemmas.{at_one_place}
use Rattle.cil_macros.proofs.ThroughLemmas.{through_trail}

-- ---- one word

put_list_same : (sign : Sign) (at : Spot) (op : Op) (parts : Terms ScopedWord) → is_misplaced sign (put_list sign at op parts) ≡ is_misplaced sign (Form at op parts)
put_list_same signs.MappedPermissions at op parts = refl
put_list_same sign at op parts = refl

put_same : (sign : Sign) (t : Term ScopedWord) → is_misplaced sign (put sign t) ≡ is_misplaced sign t
put_same sign (Leaf w) = refl
put_same sign (Name at name) = refl
put_same sign (Form at op parts) = put_list_same sign at op parts

module _ (ws : List Written) (q : Placed) (w : Word) where
  -- it stands for an argument that is misplaced there
  record Misplaces : Type 0 where
    pub argument : Bound
    pub fills : find (is_served w) q.bounds ≡ Some argument
    pub misplaced : is_misplaced w.sign argument.value ≡ true

  by_bound : (o : Option Bound) → find (is_served w) q.bounds ≡ o → is_misplaced w.sign (meant_by ws q w o) ≡ true → Misplaces
  by_bound None e f = absurd (let g : false ≡ true = f in cc)
  by_bound (Some b) e f = record { argument = b; fills = e; misplaced = sym (put_same w.sign b.value) ∙ f }

  wrong_misplaces : is_wrong_word ws q w ≡ true → Misplaces
  unfolding meaning
  wrong_misplaces e = by_bound (find (is_served w) q.bounds) refl e

  misplaces_wrong : (b : Bound) → find (is_served w) q.bounds ≡ Some b → is_misplaced w.sign b.value ≡ true → is_wrong_word ws q w ≡ true
  unfolding meaning
  misplaces_wrong b e f = ap (λ o. is_misplaced w.sign (meant_by ws q w o)) e ∙ put_same w.sign b.value ∙ f

one_or_other : (a b : Bool) → (a || b) ≡ true → (a ≡ true) ⊎ (b ≡ true)
one_or_other true b e = inl refl
one_or_other false b e = inr e

-- one of many
any_some : {X : Type 0} (f : X → Bool) (xs : List X) → list_any f xs ≡ true → (x : X) × Contains xs x × (f x ≡ true)
any_some f [] e = absurd (let g : false ≡ true = e in cc)
any_some f (x ∷ xs) e = elim (one_or_other (f x) (list_any f xs) e) [
  | inl g ↦ (x, contains_here x xs, g)
  | inr h ↦ let r = any_some f xs h in (r.0, contains_later r.0 x xs r.1, r.2)
]

some_any : {X : Type 0} (f : X → Bool) (xs : List X) (x : X) → Contains xs x → f x ≡ true → list_any f xs ≡ true
some_any f [] x c e = absurd (contains_none x c)
some_any f (y ∷ ys) x c e = elim (contains_cases x y ys c) [
  | inl same ↦ ap (λ b. b || list_any f ys) (ap f same ∙ e)
  | inr d ↦ or_true (f y) (list_any f ys) (some_any f ys x d e)
]
  where
    or_true : (a b : Bool) → b ≡ true → (a || b) ≡ true
    or_true true b g = refl
    or_true false b g = g

-- ---- the statements of a body

module _ (s : Scene) (are : IsScene s) (placed : Lists placed_cmp (IsPlaced (written_in s.spaces.now) (all_standing s.spaces.now)) (placed_of_scene s)) where
  abbrev ws : List Written
  ws = written_in s.spaces.now

  abbrev ss : List Standing
  ss = all_standing s.spaces.now

  abbrev ps : List Placed
  ps = placed_of_scene s

  abbrev cs : List Called
  cs = s.brought.now.entries.items

  abbrev bs : List code.Body
  bs = s.brought.now.bodies.items

  each_stands : (m : Standing) → Contains ss m → Stands ws m
  each_stands m c = (are.standings.contents.standings.members m).0 c

  abbrev apart : AreApart ws
  apart = are_apart (statements_in s.spaces.now) are.standings.contents.nested

  placed_there : (k : ℕ) (p : Placed) → slice_get ps k ≡ Some p → IsPlaced ws ss p
  placed_there k p e = (placed.members p).0 (get_contains ps k p e)

  -- what came through the same statements is at the same place
  same_place : (m : ℕ) (q : Placed) → slice_get ps m ≡ Some q → (k : ℕ) (p : Placed) → slice_get ps k ≡ Some p → q.standing.trail ≡ p.standing.trail → m ≡ k
  same_place m q e k p f trail = at_one_place ws ss apart each_stands ps placed m k q p e f trail

  same_placed : (q : Placed) → IsPlaced ws ss q → (k : ℕ) (p : Placed) → slice_get ps k ≡ Some p → q.standing.trail ≡ p.standing.trail → q ≡ p
  same_placed q iq k p f trail =
      let m = get_at ps q ((placed.members q).1 iq) in
      some_same q p (sym m.2 ∙ ap (slice_get ps) (same_place m.0 q m.2 k p f trail) ∙ f)

  behind : (a c : ℕ) → c ≤ a → (j : ℕ) × (a ≡ c + j)
  behind a zero g = (a, omega arith)
  behind zero (suc c) g = absurd (omega (arith, g))
  behind (suc a) (suc c) g = let r = behind a c (omega (arith, g)) in let e = r.1 in (r.0, omega (arith, e))

  -- a statement that is brought, with what opened it
  record IsOpenedBy (j : ℕ) (c : Called) (q : Placed) : Type 0 where
    pub opener : Placed
    pub is_opener : slice_get ps c.opener ≡ Some opener
    pub at : Spot
    pub trail : q.standing.trail ≡ opener.standing.trail ++ at ∷ []
    pub body : Body
    pub in_body : q.body ≡ Some body

  opened_by : (j : ℕ) (c : Called) (q : Placed) → slice_get cs j ≡ Some c → slice_get ps (length ss + j) ≡ Some q → IsOpenedBy j c q
  opened_by j c q e there =
      let before = (are.brought.bodies.brought j c e).before in
      let h = in_range cs j c e in
      let l = placed_length ws ss cs in
      let r = some_at ps c.opener (omega (arith, before, h, l)) in
      let w = statement_at ws c.statement in
      let is = brought_at ws ss cs j c e before ∙ ap (λ o. Some (placed_under ws ss o w)) r.1 in
      let same = some_same q (placed_under ws ss (Some r.0) w) (sym there ∙ is) in
      let b = is_brought ws ss cs bs are.brought.bodies j c e in
      let one = some_same q b.there (sym there ∙ b.placed) in
      record {
        opener = r.0;
        is_opener = r.1;
        at = w.statement.at;
        trail = ap (λ (x : Placed). x.standing.trail) same ∙ through_trail ws r.0 (unfolded ws ss r.0) w;
        body = _;
        in_body = ap (λ (x : Placed). x.body) one ∙ b.is.body;
      }

  -- what has a body is brought
  brought_there : (q : Placed) (b : Body) → IsPlaced ws ss q → q.body ≡ Some b → (j : ℕ) × (c : Called) × (slice_get cs j ≡ Some c) × (slice_get ps (length ss + j) ≡ Some q)
  brought_there q b iq e =
      let m = get_at ps q ((placed.members q).1 iq) in
      elim (cases_lt m.0 (length ss)) [
        | inl less ↦
            let t = some_at ss m.0 less in
            let same = some_same q (placed_standing t.0) (sym m.2 ∙ standing_at ws ss cs m.0 t.0 t.1) in
            absurd (none_some b (sym (ap (λ (x : Placed). x.body) same) ∙ e))
        | inr ge ↦
            let j = behind m.0 (length ss) ge in
            let place = j.1 in
            let h = m.1 in
            let l = placed_length ws ss cs in
            let c = some_at cs j.0 (omega (arith, h, l, place)) in
            (j.0, c.0, c.1, ap (slice_get ps) (sym place) ∙ m.2)
      ]

  module _ (k : ℕ) (p : Placed) (here : slice_get ps k ≡ Some p) (u : Unfolded) (is : unfolded ws ss p ≡ Some u) where
    no_keeper : (f : unfolded ws ss p ≡ None) → ⊥
    no_keeper f = none_some u (sym f ∙ is)

    keeper : (r : Placed) → r ≡ p → keeps_place r.standing.statement.statement.keyword ≡ true → ⊥
    keeper r same keeps = no_keeper (ap (unfolded ws ss) (sym same) ∙ kept_opens_none ws ss r keeps)

    -- ---- what has the number of its body is of the call

    directly_of : (q : Placed) (b : Body) (at : Spot) → IsPlaced ws ss q → q.body ≡ Some b → q.standing.trail ≡ p.standing.trail ++ at ∷ [] → IsOfCall ws p u q
    directly_of q b at (stands s c) e trail = absurd (none_some b e)
    directly_of q b at (called r v w ir f d i) e trail =
        let ends = same_ends r.standing.trail p.standing.trail w.statement.at at trail in
        let one = same_placed r ir k p here ends.0 in
        let two = some_same u v (sym is ∙ ap (unfolded ws ss) (sym one) ∙ f) in
        subst (IsOfCall ws p u) (λ j. placed_called (sym one j) (two j) w) (directly w d (subst (λ (x : Unfolded). IsIn w x.macro.statement) (sym two) i))
    directly_of q b at (in_optional r x w ir f o d i) e trail =
        let ends = same_ends r.standing.trail p.standing.trail w.statement.at at trail in
        absurd (keeper r (same_placed r ir k p here ends.0) (optional_keeps r.standing.statement.statement.keyword o))
    directly_of q b at (in_branch r x w ir f o d i) e trail =
        let ends = same_ends r.standing.trail p.standing.trail w.statement.at at trail in
        absurd (keeper r (same_placed r ir k p here ends.0) (conditional_keeps r.standing.statement.statement.keyword o))

    within_of : (m : ℕ) (t : Placed) → slice_get ps m ≡ Some t → IsOfCall ws p u t → unfolded ws ss t ≡ None → (q : Placed) (b : Body) (at : Spot) → IsPlaced ws ss q → q.body ≡ Some b
        → q.standing.trail ≡ t.standing.trail ++ at ∷ [] → IsOfCall ws p u q
    within_of m t there of none q b at (stands s c) e trail = absurd (none_some b e)
    within_of m t there of none q b at (called r v w ir f d i) e trail =
        let ends = same_ends r.standing.trail t.standing.trail w.statement.at at trail in
        absurd (none_some v (sym none ∙ ap (unfolded ws ss) (sym (same_placed r ir m t there ends.0)) ∙ f))
    within_of m t there of none q b at (in_optional r x w ir f o d i) e trail =
        let ends = same_ends r.standing.trail t.standing.trail w.statement.at at trail in
        let one = same_placed r ir m t there ends.0 in
        in_its_optional r w (subst (IsOfCall ws p u) (sym one) of) o d i
    within_of m t there of none q b at (in_branch r x w ir f o d i) e trail =
        let ends = same_ends r.standing.trail t.standing.trail w.statement.at at trail in
        let one = same_placed r ir m t there ends.0 in
        in_its_branch r w (subst (IsOfCall ws p u) (sym one) of) o d i

    of_below : (n j : ℕ) (c : Called) → j < n → slice_get cs j ≡ Some c → (b : code.Body) → slice_get bs c.body ≡ Some b → b.call ≡ k → (q : Placed) → slice_get ps (length ss + j) ≡ Some q
        → IsOfCall ws p u q
    of_below zero j c less e b is_b by q there = absurd (omega (arith, less))
    of_below (suc n) j c less e b is_b by q there =
        let x = are.brought.bodies.brought j c e in
        let y = opened_by j c q e there in
        let iq = placed_there (length ss + j) q there in
        elim x.opened [
          | inl same ↦
              let one = some_same x.body b (sym x.is_body ∙ is_b) in
              let k_is : c.opener ≡ k = sym same ∙ ap (λ (z : code.Body). z.call) one ∙ by in
              let opener = some_same y.opener p (sym y.is_opener ∙ ap (slice_get ps) k_is ∙ here) in
              directly_of q y.body y.at iq y.in_body (y.trail ∙ ap (λ (z : Placed). z.standing.trail ++ y.at ∷ []) opener)
          | inr o ↦
              let before = x.before in
              let place = o.behind in
              let there_so = ap (slice_get ps) (sym place) ∙ y.is_opener in
              let of = of_below n o.rank o.called (omega (arith, less, before, place)) o.is b (ap (slice_get bs) o.body ∙ is_b) by y.opener there_so in
              let keeps = ap (λ (w : Written). keeps_place w.statement.keyword) (called_statement ws ss cs o.rank o.called y.opener o.is there_so) ∙ o.keeps in
              within_of c.opener y.opener y.is_opener of (kept_opens_none ws ss y.opener keeps) q y.body y.at iq y.in_body y.trail
        ]

    -- ---- what is of the call has the number of its body

    record IsFound (q : Placed) : Type 0 where
      pub rank : ℕ
      pub called : Called
      pub is_called : slice_get cs rank ≡ Some called
      pub body : code.Body
      pub is_body : slice_get bs called.body ≡ Some body
      pub by_call : body.call ≡ k
      pub there : slice_get ps (length ss + rank) ≡ Some q

    body_of : (q : Placed) → IsOfCall ws p u q → q.body ≡ Some record { macro = u.macro.statement; home = home_of p.standing.scope p.body }
    body_of q (directly w c i) = refl
    body_of q (in_its_optional r w of o c i) = body_of r of
    body_of q (in_its_branch r w of o c i) = body_of r of

    found_directly : (q : Placed) (b : Body) (at : Spot) → IsPlaced ws ss q → q.body ≡ Some b → q.standing.trail ≡ p.standing.trail ++ at ∷ [] → IsFound q
    found_directly q b at iq e trail =
        let f = brought_there q b iq e in
        let x = are.brought.bodies.brought f.0 f.1 f.2 in
        let y = opened_by f.0 f.1 q f.2 f.3 in
        let ends = same_ends y.opener.standing.trail p.standing.trail y.at at (sym y.trail ∙ trail) in
        let k_is = same_place f.1.opener y.opener y.is_opener k p here ends.0 in
        elim x.opened [
          | inl same ↦ record { rank = f.0; called = f.1; is_called = f.2; body = x.body; is_body = x.is_body; by_call = same ∙ k_is; there = f.3 }
          | inr o ↦
              let there_so = ap (slice_get ps) (sym o.behind) ∙ y.is_opener in
              let keeps = ap (λ (w : Written). keeps_place w.statement.keyword) (called_statement ws ss cs o.rank o.called y.opener o.is there_so) ∙ o.keeps in
              absurd (keeper y.opener (some_same y.opener p (sym y.is_opener ∙ ap (slice_get ps) k_is ∙ here)) keeps)
        ]

    found_within : (t : Placed) → IsFound t → unfolded ws ss t ≡ None → (q : Placed) (b : Body) (at : Spot) → IsPlaced ws ss q → q.body ≡ Some b
        → q.standing.trail ≡ t.standing.trail ++ at ∷ [] → IsFound q
    found_within t found none q b at iq e trail =
        let f = brought_there q b iq e in
        let x = are.brought.bodies.brought f.0 f.1 f.2 in
        let y = opened_by f.0 f.1 q f.2 f.3 in
        let ends = same_ends y.opener.standing.trail t.standing.trail y.at at (sym y.trail ∙ trail) in
        let place = same_place f.1.opener y.opener y.is_opener (length ss + found.rank) t found.there ends.0 in
        elim x.opened [
          | inl same ↦
              let z = are.brought.bodies.each f.1.body x.body x.is_body in
              let call = some_same z.call t (sym z.is_call ∙ ap (slice_get ps) (same ∙ place) ∙ found.there) in
              absurd (none_some z.opened (sym none ∙ ap (unfolded ws ss) (sym call) ∙ z.is_opened))
          | inr o ↦
              let at_rank = o.behind in
              let rank : o.rank ≡ found.rank = omega (arith, at_rank, place) in
              let one = some_same o.called found.called (sym o.is ∙ ap (slice_get cs) rank ∙ found.is_called) in
              let number : f.1.body ≡ found.called.body = sym o.body ∙ ap (λ (z : Called). z.body) one in
              record { rank = f.0; called = f.1; is_called = f.2; body = found.body; is_body = ap (slice_get bs) number ∙ found.is_body; by_call = found.by_call; there = f.3 }
        ]

    found : (q : Placed) → IsOfCall ws p u q → IsFound q
    found q (directly w c i) = found_directly (placed_called p u w) _ w.statement.at (called p u w (placed_there k p here) is c i) refl refl
    found q (in_its_optional r w of o c i) =
        let f = found r of in
        found_within r f (kept_opens_none ws ss r (optional_keeps r.standing.statement.statement.keyword o)) (placed_in_optional r w) _ w.statement.at
        (in_optional r _ w (placed_there (length ss + f.rank) r f.there) (body_of r of) o c i) (body_of r of) refl
    found q (in_its_branch r w of o c i) =
        let f = found r of in
        found_within r f (kept_opens_none ws ss r (conditional_keeps r.standing.statement.statement.keyword o)) (placed_in_branch ws r w) _ w.statement.at
        (in_branch r _ w (placed_there (length ss + f.rank) r f.there) (body_of r of) o c i) (body_of r of) refl

    -- ---- the same of what is misplaced

    has_misplaced : (q : Placed) → IsOfCall ws p u q → has_wrong_word ws ss q ≡ true → HasMisplaced ws ss p u
    has_misplaced q of wrong =
        let x = any_some (is_wrong_word ws q) (words_placed ws ss q) wrong in
        let m = wrong_misplaces ws q x.0 x.2 in
        record { statement = q; is_of = of; filled = x.0; stands = x.1; argument = m.argument; fills = m.fills; misplaced = m.misplaced }

    has_wrong : HasMisplaced ws ss p u → HasWrong s (length cs) k
    has_wrong x =
        let f = found x.statement x.is_of in
        let h = in_range cs f.rank f.called f.is_called in
        let l = standings_length ws (entries_in s.spaces.now) in
        record {
          rank = f.rank;
          before = h;
          called = f.called;
          is = f.is_called;
          body = f.body;
          is_body = f.is_body;
          by_call = f.by_call;
          there = x.statement;
          placed = ap (λ n. slice_get ps (n + f.rank)) (sym l) ∙ f.there;
          wrong = some_any (is_wrong_word ws x.statement) (words_placed ws ss x.statement) x.filled x.stands (misplaces_wrong ws x.statement x.filled x.argument x.fills x.misplaced);
        }

  -- ---- what marks say

  pub list_marks_so : (marks : List Bool) → AreWrongMarks s (length cs) marks → AreListMarks ws ss ps marks
  list_marks_so marks so k p here = (
    (λ m.
        let x = (so k).0 m in
        let b = are.brought.bodies.each x.called.body x.body x.is_body in
        let call = some_same b.call p (sym b.is_call ∙ ap (slice_get ps) x.by_call ∙ here) in
        let is : unfolded ws ss p ≡ Some b.opened = ap (unfolded ws ss) (sym call) ∙ b.is_opened in
        let l = standings_length ws (entries_in s.spaces.now) in
        let of = of_below k p here b.opened is (suc x.rank) x.rank x.called (omega arith) x.is x.body x.is_body x.by_call x.there (ap (λ n. slice_get ps (n + x.rank)) l ∙ x.placed) in
        record { opened = b.opened; is = is; has = has_misplaced k p here b.opened is x.there of x.wrong }),
    (λ x. (so k).1 (has_wrong k p here x.opened x.is x.has)),
  )

-- What calls bring, as it is kept: one more is one placed statement more, and what a call, an optional or a booleanif opens is what
-- is in it.
use Rattle.std.proofs.Common.{◌≡◌, ℕ, ◌+◌, ◌<◌, ◌≤◌, Bool, true, false, List, [], ◌∷◌, ◌++◌, length, get_or, map, take, refl, sym, ◌∙◌, ap, subst, arith, append_assoc}
use Rattle.std.specs.Prelude.{Some, None, slice_get}
use Rattle.std.specs.List.Sorted.{IsStrictlySortedBy}
use Rattle.std.proofs.lemmas.List.{take_more, map-append, length-append, length-map}
use Rattle.cil_base.specs.Places.{get_in_front}
use Rattle.cil_base.specs.Rising.{IsOver}
use Rattle.cil_base.specs.Lists.{Lists}
use Rattle.cil_syntax.specs.Written.{Written, written_cmp}
use Rattle.cil_blocks.specs.Contents.{Standing, keeps_place, standing_cmp}
use Rattle.cil_blocks.specs.Entries.{AreParts, parts_at, statement_at}
use Rattle.cil_blocks.specs.Opens.{parts}
use Rattle.cil_blocks.specs.declared.parts.Parts.{Parts}
use Rattle.cil_blocks.proofs.EntryLemmas.{map_two}
use Rattle.cil_base.specs.Queue as queue
use Rattle.cil_macros.specs.declared.entry.Called.{Called}
use Rattle.cil_macros.specs.Calls.{IsPlaced, Unfolded, is_call, placed_called, placed_cmp, unfolded}
use Rattle.cil_macros.specs.Entries.{placed_by, placed_from, placed_of, placed_through, placed_under}
use Rattle.cil_macros.specs.Opens.{opens_call, opens_inside, opens_placed, placed_inside, starts}
use Rattle.cil_macros.specs.Placed.{Body, Placed, placed_standing}
use Rattle.cil_macros.proofs.CalledMacros.{is_macro_call, kept_opens_none}
use Rattle.cil_macros.proofs.PlacedWalk.{call_keeps_none, chosen_false, chosen_true, placed_reached, queue_order, reached_placed}

module _ (ws : List Written) (ss : List Standing) where
  -- ---- the view of one more

  pub pushed_from : (done : List Placed) (cs : List Called) (c : Called)
      → placed_from ws ss done (cs ++ c ∷ []) ≡ placed_from ws ss done cs ++ placed_by ws ss (placed_from ws ss done cs) c.opener c.statement ∷ []
  unfolding placed_from
  pushed_from done [] c = refl
  pushed_from done (x ∷ xs) c = pushed_from (done ++ placed_by ws ss done x.opener x.statement ∷ []) xs c

  length_from : (done : List Placed) (cs : List Called) → length (placed_from ws ss done cs) ≡ length done + length cs
  unfolding placed_from
  length_from done [] = omega arith
  length_from done (c ∷ cs) =
      let rest = length_from (done ++ placed_by ws ss done c.opener c.statement ∷ []) cs in
      let one = length-append done (placed_by ws ss done c.opener c.statement ∷ []) in
      omega (arith, rest, one)

  pub placed_length : (cs : List Called) → length (placed_of ws ss cs) ≡ length ss + length cs
  placed_length cs = let l = length_from (starts ss) cs in let m = length-map ss placed_standing in omega (arith, l, m)

  -- what was opened does not hang on what is placed behind
  stays : (xs ys : List Placed) (k i : ℕ) → k < length xs → placed_by ws ss (xs ++ ys) k i ≡ placed_by ws ss xs k i
  stays xs ys k i h = ap (λ o. placed_under ws ss o (statement_at ws i)) (get_in_front xs ys k h)

  -- one number more is pushed
  pub number_pushed : (numbers : List ℕ) (k d number opener body : ℕ) (before cs new : List Called) → k < length numbers → number ≡ get_or numbers k d
      → opener < length (placed_of ws ss before)
      → placed_of ws ss cs ≡ placed_of ws ss before ++ map (placed_by ws ss (placed_of ws ss before) opener) (take k numbers)
      → new ≡ cs ++ (record { statement = number; opener = opener; body = body }) ∷ []
      → placed_of ws ss new ≡ placed_of ws ss before ++ map (placed_by ws ss (placed_of ws ss before) opener) (take (k + 1) numbers)
  number_pushed numbers k d number opener body before cs new within is range so e =
      let old = placed_of ws ss before in
      let more = map (placed_by ws ss old opener) (take k numbers) in
      ap (placed_of ws ss) e
      ∙ pushed_from (starts ss) cs (record { statement = number; opener = opener; body = body })
      ∙ ap (λ xs. xs ++ placed_by ws ss xs opener number ∷ []) so
      ∙ ap (λ s. (old ++ more) ++ s ∷ []) (stays old more opener number range)
      ∙ append_assoc old more (placed_by ws ss old opener number ∷ [])
      ∙ ap (λ xs. old ++ xs) (sym (map-append (placed_by ws ss old opener) (take k numbers) (number ∷ [])))
      ∙ ap (λ x. old ++ map (placed_by ws ss old opener) (take k numbers ++ x ∷ [])) is
      ∙ ap (λ xs. old ++ map (placed_by ws ss old opener) xs) (sym (take_more numbers k d within))

  -- ---- what a placed statement opens, by numbers

  -- what is in no body, or neither an optional nor a booleanif, opens what a call opens
  pub other_opens : (p : Placed) → keeps_place p.standing.statement.statement.keyword ≡ false → opens_placed ws ss p ≡ opens_call ws p (unfolded ws ss p)
  unfolding opens_placed
  other_opens p e = chosen_false (keeps_place p.standing.statement.statement.keyword) (opens_inside ws p p.body) (opens_call ws p (unfolded ws ss p)) e

  kept_opens : (p : Placed) → keeps_place p.standing.statement.statement.keyword ≡ true → opens_placed ws ss p ≡ opens_inside ws p p.body
  unfolding opens_placed
  kept_opens p e = chosen_true (keeps_place p.standing.statement.statement.keyword) (opens_inside ws p p.body) (opens_call ws p (unfolded ws ss p)) e

  pub standing_opens : (p : Placed) → p.body ≡ None → opens_placed ws ss p ≡ opens_call ws p (unfolded ws ss p)
  standing_opens p none = either (keeps_place p.standing.statement.statement.keyword) refl
    where
      either : (b : Bool) → keeps_place p.standing.statement.statement.keyword ≡ b → opens_placed ws ss p ≡ opens_call ws p (unfolded ws ss p)
      either true e = kept_opens p e ∙ ap (opens_inside ws p) none ∙ ap (opens_call ws p) (sym (kept_opens_none ws ss p e))
      either false e = other_opens p e

  pub opens_nothing : (p : Placed) → opens_placed ws ss p ≡ opens_call ws p (unfolded ws ss p) → unfolded ws ss p ≡ None → opens_placed ws ss p ≡ []
  opens_nothing p so e = so ∙ ap (opens_call ws p) e

  opens_body : (p : Placed) (u : Unfolded) → unfolded ws ss p ≡ Some u → opens_placed ws ss p ≡ map (placed_called p u) (parts ws u.macro.statement)
  opens_body p u e =
      other_opens p (call_keeps_none p.standing.statement.statement.keyword (is_macro_call ws ss p u e).call) ∙ ap (opens_call ws p) e

  pub opens_so : (ps : Parts) → AreParts ws ps → (done : List Placed) (at k : ℕ) (p : Placed) (u : Unfolded) → slice_get done at ≡ Some p → unfolded ws ss p ≡ Some u
      → k < length ws → u.macro.statement ≡ statement_at ws k → map (placed_by ws ss done at) (parts_at ps k) ≡ opens_placed ws ss p
  opens_so ps are_parts done at k p u here e within same =
      map_two ws (placed_under ws ss (slice_get done at)) (statement_at ws) (parts_at ps k)
      ∙ ap (map (placed_under ws ss (slice_get done at))) (are_parts.inside k within)
      ∙ ap (λ o. map (placed_under ws ss o) (parts ws (statement_at ws k))) here
      ∙ ap (λ o. map (placed_through ws p o) (parts ws (statement_at ws k))) e
      ∙ ap (λ w. map (placed_called p u) (parts ws w)) (sym same)
      ∙ sym (opens_body p u e)

  -- an optional or a booleanif of a body opens the statements directly in it
  pub opens_within : (ps : Parts) → AreParts ws ps → (done : List Placed) (at k : ℕ) (p : Placed) (b : Body) → slice_get done at ≡ Some p → p.body ≡ Some b
      → keeps_place p.standing.statement.statement.keyword ≡ true → k < length ws → p.standing.statement ≡ statement_at ws k
      → map (placed_by ws ss done at) (parts_at ps k) ≡ opens_placed ws ss p
  opens_within ps are_parts done at k p b here e is within same =
      map_two ws (placed_under ws ss (slice_get done at)) (statement_at ws) (parts_at ps k)
      ∙ ap (map (placed_under ws ss (slice_get done at))) (are_parts.inside k within)
      ∙ ap (λ o. map (placed_under ws ss o) (parts ws (statement_at ws k))) here
      ∙ ap (λ o. map (placed_through ws p o) (parts ws (statement_at ws k))) (kept_opens_none ws ss p is)
      ∙ ap (λ w. map (placed_inside ws p) (parts ws w)) (sym same)
      ∙ sym (kept_opens p is ∙ ap (opens_inside ws p) e)

  -- ---- the loop

  abbrev pub AreSoFar : ℕ → List Placed → Type 0
  AreSoFar at xs = queue.AreSoFar placed_cmp (starts ss) (opens_placed ws ss) at xs

  module _ (unfolds_calls : (p : Placed) (u : Unfolded) → unfolded ws ss p ≡ Some u → is_call p.standing.statement.statement.keyword ≡ true)
      (rising : IsStrictlySortedBy written_cmp ws) (standing_rising : IsStrictlySortedBy standing_cmp ss) where
    pub started : AreSoFar 0 (placed_of ws ss [])
    unfolding placed_from
    started = queue.at_start placed_cmp (starts ss) (opens_placed ws ss) (queue_order ws ss unfolds_calls rising standing_rising)

    pub went_on : (at : ℕ) (cs new : List Called) (p : Placed) → slice_get (placed_of ws ss cs) at ≡ Some p
        → AreSoFar at (placed_of ws ss cs) → placed_of ws ss new ≡ placed_of ws ss cs ++ opens_placed ws ss p → AreSoFar (at + 1) (placed_of ws ss new)
    went_on at cs new p here so e =
        subst (AreSoFar (at + 1)) (sym e)
        (queue.one_opened placed_cmp (starts ss) (opens_placed ws ss) (queue_order ws ss unfolds_calls rising standing_rising) at (placed_of ws ss cs) p here so)

    -- what is reached is what is placed
    pub all_placed : (at : ℕ) (cs : List Called) → length ss + length cs ≤ at → AreSoFar at (placed_of ws ss cs) → Lists placed_cmp (IsPlaced ws ss) (placed_of ws ss cs)
    all_placed at cs over so =
        let l = placed_length cs in
        let all = queue.all_opened placed_cmp (starts ss) (opens_placed ws ss) at (placed_of ws ss cs) (omega (arith, over, l)) so in
        record {
          rising = all.rising;
          members = λ p. (
            (λ c. placed_reached ws ss unfolds_calls p ((all.members p).0 c)),
            (λ i. (all.members p).1 (reached_placed ws ss unfolds_calls p i)),
          );
        }

    pub too_many : (at limit : ℕ) (cs : List Called) → limit < length ss + length cs → AreSoFar at (placed_of ws ss cs) → IsOver placed_cmp (IsPlaced ws ss) limit
    too_many at limit cs h so =
        let l = placed_length cs in
        record {
          some = placed_of ws ss cs;
          rising = so.rising;
          each = λ p c. placed_reached ws ss unfolds_calls p (so.reached p c);
          many = omega (arith, h, l);
        }

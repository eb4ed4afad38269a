-- What is placed is what the queue reaches that begins with all that stands.
use Rattle.std.proofs.Common.{◌≡◌, suc, ◌<◌, Bool, true, false, if◌then◌else◌, List, [], ◌∷◌, ◌++◌, map, refl, sym, ◌∙◌, ap, subst, inl, inr, arith}
use Rattle.std.specs.Prelude.{Contains, Option, Some, None}
use Rattle.std.specs.declared.cmp.Ordering.{Ordering}
use Rattle.std.specs.declared.cmp.Ordering.TheVariants.{Less, Equal, Greater}
use Rattle.std.specs.Ordering.{nat_cmp, ordering_then}
use Rattle.std.specs.List.Sorted.{IsStrictlySortedBy}
use Rattle.std.proofs.lemmas.List.Kept.{IsStrictlySortedBy-filter}
use Rattle.cil_base.specs.MadeLists.{contains_map, from_map}
use Rattle.cil_base.specs.Paths.{below_by, equal_from, less_from, opened_beside, opened_later, same_by}
use Rattle.cil_base.specs.Queue.{IsQueueOrder, IsReached, at_first, onward}
use Rattle.cil_base.specs.Rising.{all_from}
use Rattle.cil_base.specs.Lists.{all_at, contains_none}
use Rattle.cil_syntax.specs.declared.kind.Keyword.{Keyword}
use Rattle.cil_syntax.specs.declared.kind.Keyword.TheVariants as keywords
use Rattle.cil_faults.specs.declared.spot.Spot.{Spot}
use Rattle.cil_syntax.specs.Written.{Written, written_cmp}
use Rattle.cil_blocks.specs.Contents.{IsIn, Standing, is_at, is_conditional, is_optional, keeps_place, path_cmp, spot_cmp, spot_total, standing_cmp}
use Rattle.cil_blocks.specs.Opens.{parts}
use Rattle.cil_blocks.proofs.Keeping.{conditional_keeps, conditional_no_optional, optional_keeps, optional_unconditional, which_keeps}
use Rattle.cil_blocks.proofs.StandingWalk.{in_parts, parts_of}
use Rattle.cil_blocks.specs.Branches.{branch_value}
use Rattle.cil_macros.specs.Calls.{IsPlaced, Unfolded, called, in_branch, in_optional, is_call, placed_called, placed_cmp, placed_in_branch, placed_in_optional, stands, unfolded}
use Rattle.cil_macros.specs.Opens.{opens_call, opens_inside, opens_placed, placed_inside, starts}
use Rattle.cil_macros.specs.Placed.{Body, Placed, condition_there, placed_standing}

pub chosen_true : {X : Type 0} (b : Bool) (x y : X) → b ≡ true → (if b then x else y) ≡ x
chosen_true b x y e = rw e refl

pub chosen_false : {X : Type 0} (b : Bool) (x y : X) → b ≡ false → (if b then x else y) ≡ y
chosen_false b x y e = rw e refl

pub call_keeps_none : (k : Keyword) → is_call k ≡ true → keeps_place k ≡ false
call_keeps_none keywords.Call e = refl
call_keeps_none k e = absurd (let f : false ≡ true = e in cc)

-- what is in an optional or in a booleanif, by which of the two it is
inside_by : List Written → Placed → Written → Bool → Bool → Placed
inside_by ws p w optional conditional = record {
  standing = record {
    statement = w;
    space = p.standing.space;
    chain = p.standing.chain;
    scope = p.standing.scope;
    round = if optional then p.standing.trail ∷ p.standing.round else p.standing.round;
    branch = if conditional then Some (condition_there ws p, branch_value p.standing.statement.statement.args w.statement.at) else p.standing.branch;
    trail = p.standing.trail ++ w.statement.at ∷ [];
  };
  bounds = p.bounds;
  body = p.body;
  macros = p.macros;
  steps = suc p.steps;
}

pub inside_optional : (ws : List Written) (p : Placed) (w : Written) → is_optional p.standing.statement.statement.keyword ≡ true → placed_inside ws p w ≡ placed_in_optional p w
unfolding inside_by
inside_optional ws p w o = λ i. inside_by ws p w (o i) (optional_unconditional p.standing.statement.statement.keyword o i)

pub inside_branch : (ws : List Written) (p : Placed) (w : Written) → is_conditional p.standing.statement.statement.keyword ≡ true → placed_inside ws p w ≡ placed_in_branch ws p w
unfolding inside_by
inside_branch ws p w o = λ i. inside_by ws p w (conditional_no_optional p.standing.statement.statement.keyword o i) (o i)

module _ (ws : List Written) (ss : List Standing) (unfolds_calls : (p : Placed) (u : Unfolded) → unfolded ws ss p ≡ Some u → is_call p.standing.statement.statement.keyword ≡ true) where
  opened_call : (p q : Placed) (o : Option Unfolded) → unfolded ws ss p ≡ o → IsPlaced ws ss p → Contains (opens_call ws p o) q → IsPlaced ws ss q
  opened_call p q None e ip c = absurd (contains_none q c)
  opened_call p q (Some u) e ip c =
      let m = from_map (placed_called p u) (parts ws u.macro.statement) q c in
      let k = parts_of ws u.macro.statement m.0 m.1 in
      subst (IsPlaced ws ss) m.2 (called p u m.0 ip e k.0 k.1)

  inside_placed : (p : Placed) (b : Body) (w : Written) → IsPlaced ws ss p → p.body ≡ Some b → keeps_place p.standing.statement.statement.keyword ≡ true
      → Contains ws w → IsIn w p.standing.statement → IsPlaced ws ss (placed_inside ws p w)
  inside_placed p b w ip e k c i =
      elim (which_keeps p.standing.statement.statement.keyword k) [
        | inl o ↦ subst (IsPlaced ws ss) (sym (inside_optional ws p w o)) (in_optional p b w ip e o c i)
        | inr o ↦ subst (IsPlaced ws ss) (sym (inside_branch ws p w o)) (in_branch p b w ip e o c i)
      ]

  opened_inside : (p q : Placed) (o : Option Body) → p.body ≡ o → keeps_place p.standing.statement.statement.keyword ≡ true → IsPlaced ws ss p → Contains (opens_inside ws p o) q → IsPlaced ws ss q
  opened_inside p q None e k ip c = absurd (contains_none q c)
  opened_inside p q (Some b) e k ip c =
      let m = from_map (placed_inside ws p) (parts ws p.standing.statement) q c in
      let i = parts_of ws p.standing.statement m.0 m.1 in
      subst (IsPlaced ws ss) m.2 (inside_placed p b m.0 ip e k i.0 i.1)

  opened_either : (p q : Placed) (b : Bool) → keeps_place p.standing.statement.statement.keyword ≡ b → IsPlaced ws ss p
      → Contains (if b then opens_inside ws p p.body else opens_call ws p (unfolded ws ss p)) q → IsPlaced ws ss q
  opened_either p q true e ip c = opened_inside p q p.body refl e ip c
  opened_either p q false e ip c = opened_call p q (unfolded ws ss p) refl ip c

  pub placed_reached : (p : Placed) → IsReached placed_cmp (starts ss) (opens_placed ws ss) p → IsPlaced ws ss p
  unfolding opens_placed
  placed_reached p (at_first q c) = let m = from_map placed_standing ss q c in subst (IsPlaced ws ss) m.2 (stands m.0 m.1)
  placed_reached p (onward q r i c) = opened_either q r (keeps_place q.standing.statement.statement.keyword) refl (placed_reached q i) c

  kept_reached : (q : Placed) (b : Body) (w : Written) (x : Placed) → IsReached placed_cmp (starts ss) (opens_placed ws ss) q → q.body ≡ Some b
      → keeps_place q.standing.statement.statement.keyword ≡ true → Contains ws w → IsIn w q.standing.statement → placed_inside ws q w ≡ x
      → IsReached placed_cmp (starts ss) (opens_placed ws ss) x
  unfolding opens_placed
  kept_reached q b w x r e k c i same =
      subst (IsReached placed_cmp (starts ss) (opens_placed ws ss)) same
      (onward q (placed_inside ws q w) r
      (subst (λ l. Contains l (placed_inside ws q w))
      (sym (chosen_true (keeps_place q.standing.statement.statement.keyword) (opens_inside ws q q.body) (opens_call ws q (unfolded ws ss q)) k ∙ ap (opens_inside ws q) e))
      (contains_map (placed_inside ws q) (parts ws q.standing.statement) w (in_parts ws q.standing.statement w c i))))

  pub reached_placed : (p : Placed) → IsPlaced ws ss p → IsReached placed_cmp (starts ss) (opens_placed ws ss) p
  unfolding opens_placed
  reached_placed p (stands s c) = at_first (placed_standing s) (contains_map placed_standing ss s c)
  reached_placed p (called q u w iq e c i) =
      onward q (placed_called q u w) (reached_placed q iq)
      (subst (λ l. Contains l (placed_called q u w))
      (sym (chosen_false (keeps_place q.standing.statement.statement.keyword) (opens_inside ws q q.body) (opens_call ws q (unfolded ws ss q))
      (call_keeps_none q.standing.statement.statement.keyword (unfolds_calls q u e)) ∙ ap (opens_call ws q) e))
      (contains_map (placed_called q u) (parts ws u.macro.statement) w (in_parts ws u.macro.statement w c i)))
  reached_placed p (in_optional q b w iq e k c i) =
      kept_reached q b w (placed_in_optional q w) (reached_placed q iq) e (optional_keeps q.standing.statement.statement.keyword k) c i (inside_optional ws q w k)
  reached_placed p (in_branch q b w iq e k c i) =
      kept_reached q b w (placed_in_branch ws q w) (reached_placed q iq) e (conditional_keeps q.standing.statement.statement.keyword k) c i (inside_branch ws q w k)

  -- ---- the order of the queue

  -- one step more inside, and one place more on the trail
  record IsStepOf (p q : Placed) : Type 0 where
    pub at : Spot
    pub trail : q.standing.trail ≡ p.standing.trail ++ at ∷ []
    pub steps : q.steps ≡ suc p.steps

  mapped_step : (p q : Placed) (f : Written → Placed) (us : List Written) → ((w : Written) → (f w).standing.trail ≡ p.standing.trail ++ w.statement.at ∷ [])
      → ((w : Written) → (f w).steps ≡ suc p.steps) → Contains (map f us) q → IsStepOf p q
  mapped_step p q f us h k c =
      let m = from_map f us q c in
      record { at = m.0.statement.at; trail = ap (λ (x : Placed). x.standing.trail) (sym m.2) ∙ h m.0; steps = ap (λ (x : Placed). x.steps) (sym m.2) ∙ k m.0 }

  call_step : (p q : Placed) (o : Option Unfolded) → Contains (opens_call ws p o) q → IsStepOf p q
  call_step p q None c = absurd (contains_none q c)
  call_step p q (Some u) c = mapped_step p q (placed_called p u) (parts ws u.macro.statement) (λ w. refl) (λ w. refl) c

  inside_step : (p q : Placed) (o : Option Body) → Contains (opens_inside ws p o) q → IsStepOf p q
  inside_step p q None c = absurd (contains_none q c)
  inside_step p q (Some b) c = mapped_step p q (placed_inside ws p) (parts ws p.standing.statement) (λ w. refl) (λ w. refl) c

  either_step : (p q : Placed) (b : Bool) → Contains (if b then opens_inside ws p p.body else opens_call ws p (unfolded ws ss p)) q → IsStepOf p q
  either_step p q true c = inside_step p q p.body c
  either_step p q false c = call_step p q (unfolded ws ss p) c

  a_step : (p q : Placed) → Contains (opens_placed ws ss p) q → IsStepOf p q
  unfolding opens_placed
  a_step p q c = either_step p q (keeps_place p.standing.statement.statement.keyword) c

  -- fewer steps first
  fewer : (p q : Placed) → p.steps < q.steps → placed_cmp p q ≡ Less
  fewer p q h = ap (λ o. ordering_then o (path_cmp p.standing.trail q.standing.trail)) (less_from p.steps q.steps h)

  as_many : (p q : Placed) → p.steps ≡ q.steps → path_cmp p.standing.trail q.standing.trail ≡ Less → placed_cmp p q ≡ Less
  as_many p q h e = ap (λ o. ordering_then o (path_cmp p.standing.trail q.standing.trail)) (equal_from p.steps q.steps h) ∙ e

  by_steps : (o : Ordering) (p q a b : Placed) → nat_cmp p.steps q.steps ≡ o → ordering_then o (path_cmp p.standing.trail q.standing.trail) ≡ Less
      → IsStepOf p a → IsStepOf q b → placed_cmp a b ≡ Less
  by_steps Less p q a b is e s t =
      let below = below_by p.steps q.steps is in let x = s.steps in let y = t.steps in fewer a b (omega (arith, below, x, y))
  by_steps Equal p q a b is e s t =
      let same = same_by p.steps q.steps is in let x = s.steps in let y = t.steps in
      as_many a b (omega (arith, same, x, y)) ((λ i. path_cmp (s.trail i) (t.trail i)) ∙ opened_later spot_cmp spot_total p.standing.trail q.standing.trail s.at t.at e)
  by_steps Greater p q a b is e s t = absurd (let f : Greater ≡ Less = e in cc)

  module _ (rising : IsStrictlySortedBy written_cmp ws) (standing_rising : IsStrictlySortedBy standing_cmp ss) where
    rising_map : {A : Type 0} (order : A → A → Ordering) (f : A → Placed) → ((v w : A) → order v w ≡ Less → placed_cmp (f v) (f w) ≡ Less) → (us : List A)
        → IsStrictlySortedBy order us → IsStrictlySortedBy placed_cmp (map f us)
    unfolding IsStrictlySortedBy
    rising_map order f h [] r = tt
    rising_map order f h (u ∷ us) r = (
      all_from (λ y. placed_cmp (f u) y ≡ Less) (map f us) (λ y c. let back = from_map f us y c in
          subst (λ y. placed_cmp (f u) y ≡ Less) back.2 (h u back.0 (all_at (λ w. order u w ≡ Less) us back.0 r.0 back.1))),
      rising_map order f h us r.1,
    )

    nothing_rises : IsStrictlySortedBy placed_cmp []
    unfolding IsStrictlySortedBy
    nothing_rises = tt

    parts_rise : (p : Written) → IsStrictlySortedBy written_cmp (parts ws p)
    parts_rise p = IsStrictlySortedBy-filter written_cmp (λ w. is_at p.statement.at w.context.under) ws rising

    call_rises : (p : Placed) (o : Option Unfolded) → IsStrictlySortedBy placed_cmp (opens_call ws p o)
    call_rises p None = nothing_rises
    call_rises p (Some u) =
        rising_map written_cmp (placed_called p u) (λ v w e. as_many (placed_called p u v) (placed_called p u w) refl
        (opened_beside spot_cmp spot_total p.standing.trail v.statement.at w.statement.at e)) (parts ws u.macro.statement) (parts_rise u.macro.statement)

    inside_rises : (p : Placed) (o : Option Body) → IsStrictlySortedBy placed_cmp (opens_inside ws p o)
    inside_rises p None = nothing_rises
    inside_rises p (Some b) =
        rising_map written_cmp (placed_inside ws p) (λ v w e. as_many (placed_inside ws p v) (placed_inside ws p w) refl
        (opened_beside spot_cmp spot_total p.standing.trail v.statement.at w.statement.at e)) (parts ws p.standing.statement) (parts_rise p.standing.statement)

    either_rises : (p : Placed) (b : Bool) → IsStrictlySortedBy placed_cmp (if b then opens_inside ws p p.body else opens_call ws p (unfolded ws ss p))
    either_rises p true = inside_rises p p.body
    either_rises p false = call_rises p (unfolded ws ss p)

    opens_rise : (p : Placed) → IsStrictlySortedBy placed_cmp (opens_placed ws ss p)
    unfolding opens_placed
    opens_rise p = either_rises p (keeps_place p.standing.statement.statement.keyword)

    pub queue_order : IsQueueOrder placed_cmp (starts ss) (opens_placed ws ss)
    queue_order = record {
      start_rises = rising_map standing_cmp placed_standing (λ v w e. as_many (placed_standing v) (placed_standing w) refl e) ss standing_rising;
      each_rises = λ p r. opens_rise p;
      behind_start = λ x y b c r d.
          let m = from_map placed_standing ss x c in
          let none : x.steps ≡ 0 = ap (λ (z : Placed). z.steps) (sym m.2) in
          let more = (a_step y b d).steps in
          fewer x b (omega (arith, none, more));
      later = λ x y a b r q e c d. by_steps (nat_cmp x.steps y.steps) x y a b refl e (a_step x a c) (a_step y b d);
    }

-- The optionals round what is placed, by their places: what came through the same statements is one, and what is round it is
-- itself among what is placed.
use Rattle.std.proofs.Common.{◌≡◌, ℕ, suc, Bool, true, false, ◌&&◌, List, [], ◌∷◌, ◌++◌, get_or, map, refl, sym, ◌∙◌, ap, arith}
use Rattle.std.specs.Prelude.{Contains, None, Some, slice_get}
use Rattle.std.specs.Ordering.{nat_cmp, ordering_then}
use Rattle.std.proofs.lemmas.List.Sums.{position_or_len_is}
use Rattle.cil_base.specs.Lists.{Lists}
use Rattle.cil_base.specs.MadeLists.{from_map}
use Rattle.cil_base.specs.Paths.{its_own}
use Rattle.cil_base.specs.Places.{cons_head, cons_tail, get_at, get_contains, get_so, in_range, is_there, never_cons, never_empty, none_some, same_ends}
use Rattle.cil_base.specs.Rising.{tied_places}
use Rattle.cil_syntax.specs.declared.kind.Keyword.{Keyword}
use Rattle.cil_syntax.specs.declared.kind.Keyword.TheVariants as keywords
use Rattle.cil_faults.specs.declared.spot.Spot.{Spot}
use Rattle.cil_syntax.specs.Written.{Written}
use Rattle.cil_blocks.specs.Contents.{Standing, Stands, in_block, in_branch as branch_stands, in_optional as optional_stands, inherited, is_block, is_inheriting, is_optional, keeps_place, path_cmp, same_spot, top}
use Rattle.cil_blocks.specs.OneStanding.{AreApart}
use Rattle.cil_blocks.specs.Places.{AreStandings, Standings, statements_in}
use Rattle.cil_blocks.proofs.Keeping.{conditional_keeps, optional_keeps}
use Rattle.cil_blocks.proofs.ProgramLemmas.{are_apart}
use Rattle.cil_blocks.proofs.StandingWalk.{same_spots, spots_same}
use Rattle.cil_macros.specs.Calls.{IsPlaced, called, in_branch, in_optional, is_call, placed_cmp, placed_in_branch, placed_in_optional, stands}
use Rattle.cil_macros.specs.declared.chain.Brought.{Brought}
use Rattle.cil_macros.specs.Instances.{AreInstances}
use Rattle.cil_macros.specs.Item.{Item}
use Rattle.cil_macros.specs.Items.{item_of, items_in}
use Rattle.cil_macros.specs.Macros.{all_standing}
use Rattle.cil_macros.specs.Placed.{Placed, placed_standing}
use Rattle.cil_macros.specs.Rounds.{AreNested, number_of, same_trail}
use Rattle.cil_macros.specs.Walks.{placed_in, written_in}
use Rattle.cil_macros.proofs.BodyLemmas.{mapped_get}
use Rattle.cil_macros.proofs.CalledMacros.{is_macro_call}
use Rattle.cil_macros.proofs.ExpandLemmas.{placed_total}
use Rattle.cil_macros.proofs.WrittenLemmas.{stands_written, written_of}
use Rattle.std.proofs.lemmas.Bool.{and_parts}

-- ---- trails that are one

trails_same : (ps qs : List Spot) → same_trail ps qs ≡ true → ps ≡ qs
unfolding same_trail
trails_same [] [] e = refl
trails_same [] (q ∷ qs) e = absurd (let f : false ≡ true = e in cc)
trails_same (p ∷ ps) [] e = absurd (let f : false ≡ true = e in cc)
trails_same (p ∷ ps) (q ∷ qs) e =
    let b = and_parts (same_spot p q) (same_trail ps qs) e in
    let first = same_spots p q b.0 in
    let rest = trails_same ps qs b.1 in
    λ i. first i ∷ rest i

trail_itself : (ps : List Spot) → same_trail ps ps ≡ true
unfolding same_trail
trail_itself [] = refl
trail_itself (p ∷ ps) = ap (λ b. b && same_trail ps ps) (spots_same p p refl) ∙ trail_itself ps

-- ---- kinds of statements that open others

call_no_block : (k : Keyword) → is_call k ≡ true → is_block k ≡ true → ⊥
call_no_block keywords.Call a b = cc
call_no_block k a b = cc

call_keeps_none : (k : Keyword) → is_call k ≡ true → keeps_place k ≡ true → ⊥
call_keeps_none keywords.Call a b = cc
call_keeps_none k a b = cc

call_no_inheriting : (k : Keyword) → is_call k ≡ true → is_inheriting k ≡ true → ⊥
call_no_inheriting keywords.Call a b = cc
call_no_inheriting k a b = cc

kept_no_block : (k : Keyword) → keeps_place k ≡ true → is_block k ≡ true → ⊥
kept_no_block keywords.Block a b = cc
kept_no_block k a b = cc

kept_no_inheriting : (k : Keyword) → keeps_place k ≡ true → is_inheriting k ≡ true → ⊥
kept_no_inheriting keywords.BlockInherit a b = cc
kept_no_inheriting k a b = cc

module _ (ws : List Written) (ss : List Standing) (apart : AreApart ws) (each : (s : Standing) → Contains ss s → Stands ws s) where
  -- ---- a trail ends with the place of the statement

  record IsTrail (s : Standing) : Type 0 where
    pub before : List Spot
    pub is : s.trail ≡ before ++ s.statement.statement.at ∷ []

  standing_trail : (s : Standing) → Stands ws s → IsTrail s
  standing_trail s (top w c u) = record { before = []; is = refl }
  standing_trail s (in_block p w sp b a c u) = record { before = p.trail; is = refl }
  standing_trail s (optional_stands p w sp o c u) = record { before = p.trail; is = refl }
  standing_trail s (branch_stands p w sp o c u) = record { before = p.trail; is = refl }
  standing_trail s (inherited p b w sp i t c u) = record { before = p.trail; is = refl }

  placed_trail : (p : Placed) → IsPlaced ws ss p → IsTrail p.standing
  placed_trail p (stands s c) = standing_trail s (each s c)
  placed_trail p (called q u w iq e c i) = record { before = q.standing.trail; is = refl }
  placed_trail p (in_optional q b w iq e o c i) = record { before = q.standing.trail; is = refl }
  placed_trail p (in_branch q b w iq e o c i) = record { before = q.standing.trail; is = refl }

  not_empty : (s : Standing) → IsTrail s → [] ≡ s.trail → ⊥
  not_empty s t e = never_empty s.statement.statement.at s.statement.statement.at t.before (e ∙ t.is)

  -- what came through the same statements is the same statement
  same_keyword : (s : Standing) (q : Placed) → Stands ws s → IsPlaced ws ss q → s.trail ≡ q.standing.trail
      → s.statement.statement.keyword ≡ q.standing.statement.statement.keyword
  same_keyword s q st iq e =
      let a = standing_trail s st in
      let b = placed_trail q iq in
      let ends = same_ends a.before b.before s.statement.statement.at q.standing.statement.statement.at (sym a.is ∙ e ∙ b.is) in
      ap (λ (w : Written). w.statement.keyword) (apart.one s.statement q.standing.statement (stands_written ws s st) (written_of ws ss each q iq) ends.1)

  -- what stands did not come through a call
  no_call : (s : Standing) (q : Placed) (w : Written) → Stands ws s → IsPlaced ws ss q → is_call q.standing.statement.statement.keyword ≡ true
      → s.trail ≡ q.standing.trail ++ w.statement.at ∷ [] → ⊥
  no_call s q w (top v c u) iq k e = not_empty q.standing (placed_trail q iq) (same_ends [] q.standing.trail v.statement.at w.statement.at e).0
  no_call s q w (in_block p v sp b a c u) iq k e =
      call_no_block q.standing.statement.statement.keyword k
      (ap is_block (sym (same_keyword p q sp iq (same_ends p.trail q.standing.trail v.statement.at w.statement.at e).0)) ∙ b)
  no_call s q w (optional_stands p v sp o c u) iq k e =
      call_keeps_none q.standing.statement.statement.keyword k
      (ap keeps_place (sym (same_keyword p q sp iq (same_ends p.trail q.standing.trail v.statement.at w.statement.at e).0))
      ∙ optional_keeps p.statement.statement.keyword o)
  no_call s q w (branch_stands p v sp o c u) iq k e =
      call_keeps_none q.standing.statement.statement.keyword k
      (ap keeps_place (sym (same_keyword p q sp iq (same_ends p.trail q.standing.trail v.statement.at w.statement.at e).0))
      ∙ conditional_keeps p.statement.statement.keyword o)
  no_call s q w (inherited p b v sp i t c u) iq k e =
      call_no_inheriting q.standing.statement.statement.keyword k
      (ap is_inheriting (sym (same_keyword p q sp iq (same_ends p.trail q.standing.trail v.statement.at w.statement.at e).0)) ∙ i)

  -- what came through the same statements as something that stands is in no body
  in_no_body : (s : Standing) (q : Placed) → Stands ws s → IsPlaced ws ss q → s.trail ≡ q.standing.trail → q.body ≡ None
  in_no_body s q st (stands t c) e = refl
  in_no_body s q st (called r u w ir f c i) e = absurd (no_call s r w st ir (is_macro_call ws ss r u f).call e)
  in_no_body s q (top v c u) (in_optional r b w ir f o d i) e =
      absurd (not_empty r.standing (placed_trail r ir) (same_ends [] r.standing.trail v.statement.at w.statement.at e).0)
  in_no_body s q (in_block p v sp k a c u) (in_optional r b w ir f o d i) e =
      absurd (kept_no_block r.standing.statement.statement.keyword (optional_keeps r.standing.statement.statement.keyword o) (ap is_block (sym (same_keyword p r sp ir (same_ends p.trail r.standing.trail v.statement.at w.statement.at e).0)) ∙ k))
  in_no_body s q (optional_stands p v sp k c u) (in_optional r b w ir f o d i) e =
      absurd (none_some b (sym (in_no_body p r sp ir (same_ends p.trail r.standing.trail v.statement.at w.statement.at e).0) ∙ f))
  in_no_body s q (branch_stands p v sp k c u) (in_optional r b w ir f o d i) e =
      absurd (none_some b (sym (in_no_body p r sp ir (same_ends p.trail r.standing.trail v.statement.at w.statement.at e).0) ∙ f))
  in_no_body s q (top v c u) (in_branch r b w ir f o d i) e =
      absurd (not_empty r.standing (placed_trail r ir) (same_ends [] r.standing.trail v.statement.at w.statement.at e).0)
  in_no_body s q (in_block p v sp k a c u) (in_branch r b w ir f o d i) e =
      absurd (kept_no_block r.standing.statement.statement.keyword (conditional_keeps r.standing.statement.statement.keyword o) (ap is_block (sym (same_keyword p r sp ir (same_ends p.trail r.standing.trail v.statement.at w.statement.at e).0)) ∙ k))
  in_no_body s q (optional_stands p v sp k c u) (in_branch r b w ir f o d i) e =
      absurd (none_some b (sym (in_no_body p r sp ir (same_ends p.trail r.standing.trail v.statement.at w.statement.at e).0) ∙ f))
  in_no_body s q (branch_stands p v sp k c u) (in_branch r b w ir f o d i) e =
      absurd (none_some b (sym (in_no_body p r sp ir (same_ends p.trail r.standing.trail v.statement.at w.statement.at e).0) ∙ f))
  in_no_body s q (inherited p g v sp k t c u) (in_branch r b w ir f o d i) e =
      absurd (kept_no_inheriting r.standing.statement.statement.keyword (conditional_keeps r.standing.statement.statement.keyword o) (ap is_inheriting (sym (same_keyword p r sp ir (same_ends p.trail r.standing.trail v.statement.at w.statement.at e).0)) ∙ k))
  in_no_body s q (inherited p g v sp k t c u) (in_optional r b w ir f o d i) e =
      absurd (kept_no_inheriting r.standing.statement.statement.keyword (optional_keeps r.standing.statement.statement.keyword o) (ap is_inheriting (sym (same_keyword p r sp ir (same_ends p.trail r.standing.trail v.statement.at w.statement.at e).0)) ∙ k))

  -- what came through the same statements came through as many calls, and optionals and booleanifs of bodies
  same_steps : (p q : Placed) → IsPlaced ws ss p → IsPlaced ws ss q → p.standing.trail ≡ q.standing.trail → p.steps ≡ q.steps
  same_steps p q (stands s c) (stands t d) e = refl
  same_steps p q (stands s c) (called r u w ir f d i) e = absurd (no_call s r w (each s c) ir (is_macro_call ws ss r u f).call e)
  same_steps p q (stands s c) (in_optional r b w ir f o d i) e = absurd (none_some b (sym (in_no_body s (placed_in_optional r w) (each s c) (in_optional r b w ir f o d i) e) ∙ f))
  same_steps p q (called r u w ir f d i) (stands t c) e = absurd (no_call t r w (each t c) ir (is_macro_call ws ss r u f).call (sym e))
  same_steps p q (in_optional r b w ir f o d i) (stands t c) e = absurd (none_some b (sym (in_no_body t (placed_in_optional r w) (each t c) (in_optional r b w ir f o d i) (sym e)) ∙ f))
  same_steps p q (called r u w ir f d i) (called t v x it g c j) e = ap suc (same_steps r t ir it (same_ends r.standing.trail t.standing.trail w.statement.at x.statement.at e).0)
  same_steps p q (called r u w ir f d i) (in_optional t b x it g o c j) e = ap suc (same_steps r t ir it (same_ends r.standing.trail t.standing.trail w.statement.at x.statement.at e).0)
  same_steps p q (in_optional r b w ir f o d i) (called t v x it g c j) e = ap suc (same_steps r t ir it (same_ends r.standing.trail t.standing.trail w.statement.at x.statement.at e).0)
  same_steps p q (in_optional r b w ir f o d i) (in_optional t a x it g k c j) e = ap suc (same_steps r t ir it (same_ends r.standing.trail t.standing.trail w.statement.at x.statement.at e).0)
  same_steps p q (stands s c) (in_branch r b w ir f o d i) e = absurd (none_some b (sym (in_no_body s (placed_in_branch ws r w) (each s c) (in_branch r b w ir f o d i) e) ∙ f))
  same_steps p q (in_branch r b w ir f o d i) (stands t c) e = absurd (none_some b (sym (in_no_body t (placed_in_branch ws r w) (each t c) (in_branch r b w ir f o d i) (sym e)) ∙ f))
  same_steps p q (called r u w ir f d i) (in_branch t b x it g o c j) e = ap suc (same_steps r t ir it (same_ends r.standing.trail t.standing.trail w.statement.at x.statement.at e).0)
  same_steps p q (in_branch r b w ir f o d i) (called t v x it g c j) e = ap suc (same_steps r t ir it (same_ends r.standing.trail t.standing.trail w.statement.at x.statement.at e).0)
  same_steps p q (in_optional r b w ir f o d i) (in_branch t a x it g k c j) e = ap suc (same_steps r t ir it (same_ends r.standing.trail t.standing.trail w.statement.at x.statement.at e).0)
  same_steps p q (in_branch r b w ir f o d i) (in_optional t a x it g k c j) e = ap suc (same_steps r t ir it (same_ends r.standing.trail t.standing.trail w.statement.at x.statement.at e).0)
  same_steps p q (in_branch r b w ir f o d i) (in_branch t a x it g k c j) e = ap suc (same_steps r t ir it (same_ends r.standing.trail t.standing.trail w.statement.at x.statement.at e).0)

  -- ---- the number of what is placed

  module _ (ps : List Placed) (are : Lists placed_cmp (IsPlaced ws ss) ps) where
    pub at_one_place : (i j : ℕ) (p q : Placed) → slice_get ps i ≡ Some p → slice_get ps j ≡ Some q → p.standing.trail ≡ q.standing.trail → i ≡ j
    at_one_place i j p q e f same =
        let steps = same_steps p q ((are.members p).0 (get_contains ps i p e)) ((are.members q).0 (get_contains ps j q f)) same in
        tied_places placed_cmp placed_total ps i j p q are.rising e f
        ((λ k. ordering_then (nat_cmp p.steps (sym steps k)) (path_cmp p.standing.trail (sym same k))) ∙ its_own (placed_cmp p p) (placed_total.antisymm p p))

    not_same : (b : Bool) → (b ≡ true → ⊥) → b ≡ false
    not_same true h = absurd (h refl)
    not_same false h = refl

    pub number_of_own : (o : ℕ) (q : Placed) → slice_get ps o ≡ Some q → number_of ps q.standing.trail ≡ o
    unfolding number_of
    number_of_own o q e =
        position_or_len_is (λ (p : Placed). same_trail p.standing.trail q.standing.trail) ps o q (let h = in_range ps o q e in omega (arith, h))
        (λ k h. not_same _ (λ t.
        let p = get_or ps k q in
        let l = in_range ps o q e in
        let there = is_there ps k q (omega (arith, h, l)) in
        let one = at_one_place k o p q there e (trails_same p.standing.trail q.standing.trail t) in
        omega (arith, one, h)))
        (λ h. ap (λ (p : Placed). same_trail p.standing.trail q.standing.trail) (get_so ps o q q e) ∙ trail_itself q.standing.trail)

  -- ---- what is round it

  -- an optional that is placed, with what is round it
  pub record IsRound (t : List Spot) (ts : List (List Spot)) : Type 0 where
    pub by : Placed
    pub placed : IsPlaced ws ss by
    pub optional : is_optional by.standing.statement.statement.keyword ≡ true
    pub trail : by.standing.trail ≡ t
    pub round : by.standing.round ≡ ts

  module _ (all : (s : Standing) → Stands ws s → Contains ss s) where
    standing_round : (s : Standing) (t : List Spot) (ts : List (List Spot)) → Stands ws s → s.round ≡ t ∷ ts → IsRound t ts
    standing_round s t ts (top w c u) e = absurd (never_cons t ts e)
    standing_round s t ts (in_block p w sp b a c u) e = standing_round p t ts sp e
    standing_round s t ts (optional_stands p w sp o c u) e =
        record { by = placed_standing p; placed = stands p (all p sp); optional = o; trail = cons_head p.trail t p.round ts e; round = cons_tail p.trail t p.round ts e }
    standing_round s t ts (branch_stands p w sp o c u) e = standing_round p t ts sp e
    standing_round s t ts (inherited p b w sp i k c u) e = standing_round p t ts sp e

    placed_round : (p : Placed) (t : List Spot) (ts : List (List Spot)) → IsPlaced ws ss p → p.standing.round ≡ t ∷ ts → IsRound t ts
    placed_round p t ts (stands s c) e = standing_round s t ts (each s c) e
    placed_round p t ts (called q u w iq f c i) e = placed_round q t ts iq e
    placed_round p t ts (in_branch q b w iq f o c i) e = placed_round q t ts iq e
    placed_round p t ts (in_optional q b w iq f o c i) e =
        record { by = q; placed = iq; optional = o; trail = cons_head q.standing.trail t q.standing.round ts e; round = cons_tail q.standing.trail t q.standing.round ts e }

    -- the optionals round what is placed are placed, and nested
    module _ (ps : List Placed) (are : Lists placed_cmp (IsPlaced ws ss) ps) where
      abbrev items : List Item
      items = map (item_of ws ss ps) ps

      abbrev IsOptionalThere : ℕ → List ℕ → Type 0
      IsOptionalThere o os = (y : Item) × (slice_get items o ≡ Some y) × (is_optional y.keyword ≡ true) × (y.round ≡ os)

      by_round : (p : Placed) (r : List (List Spot)) (o : ℕ) (os : List ℕ) → IsPlaced ws ss p → p.standing.round ≡ r → map (number_of ps) r ≡ o ∷ os → IsOptionalThere o os
      by_round p [] o os ip e f = absurd (never_cons o os f)
      by_round p (t ∷ ts) o os ip e f =
          let x = placed_round p t ts ip e in
          let k = get_at ps x.by ((are.members x.by).1 x.placed) in
          let number : k.0 ≡ o =
          sym (number_of_own ps are k.0 x.by k.2) ∙ ap (number_of ps) x.trail ∙ cons_head (number_of ps t) o (map (number_of ps) ts) os f in (
            item_of ws ss ps x.by,
            ap (slice_get items) (sym number) ∙ mapped_get (item_of ws ss ps) ps k.0 x.by k.2,
            x.optional,
            ap (map (number_of ps)) x.round ∙ cons_tail (number_of ps t) o (map (number_of ps) ts) os f,
          )

      pub nested_items : AreNested items
      nested_items x o os c e =
          let m = from_map (item_of ws ss ps) ps x c in
          by_round m.0 m.0.standing.round o os ((are.members m.0).0 m.1) refl (ap (λ (y : Item). y.round) m.2 ∙ e)

-- the number of an optional is its place
pub number_is_place : (s : Standings) → AreStandings s → (ps : List Placed) → Lists placed_cmp (IsPlaced (written_in s) (all_standing s)) ps
    → (o : ℕ) (q : Placed) → slice_get ps o ≡ Some q → number_of ps q.standing.trail ≡ o
number_is_place s are ps placed =
    number_of_own (written_in s) (all_standing s) (are_apart (statements_in s) are.contents.nested) (λ m c. (are.contents.standings.members m).0 c) ps placed

-- the optionals of all instances are nested
pub all_nested : (s : Standings) (b : Brought) → AreInstances s b → AreNested (items_in (s, b.entries.items))
all_nested s b are =
    nested_items (written_in s) (all_standing s) (are_apart (statements_in s) are.standings.contents.nested) (λ m c. (are.standings.contents.standings.members m).0 c)
    (λ m st. (are.standings.contents.standings.members m).1 st) (placed_in s b.entries.items) are.placed

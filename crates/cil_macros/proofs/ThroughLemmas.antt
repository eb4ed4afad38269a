-- What came through a call is what leads back to it by openers. So marks are at the calls through which something came that may not
-- be in a branch.
use Rattle.std.proofs.Common.{◌≡◌, ◌⊎◌, ℕ, zero, suc, ◌+◌, ◌<◌, ◌≤◌, Bool, true, false, List, [], ◌∷◌, ◌++◌, length, refl, sym, ◌∙◌, ap, subst, inl, inr, arith, append_assoc}
use Rattle.std.specs.Prelude.{Contains, Option, None, Some, not, slice_get}
use Rattle.std.proofs.lemmas.Bool.{cases_lt}
use Rattle.cil_base.specs.Lists.{Lists}
use Rattle.cil_base.specs.Places.{cons_head, cons_tail, get_at, get_contains, in_range, never_cons, never_empty, same_ends, some_at, some_same}
use Rattle.cil_faults.specs.declared.spot.Spot.{Spot}
use Rattle.cil_syntax.specs.declared.kind.Keyword.{Keyword}
use Rattle.cil_syntax.specs.declared.kind.Keyword.TheVariants as keywords
use Rattle.cil_syntax.specs.Written.{Written}
use Rattle.cil_blocks.specs.Contents.{Standing, Stands, in_block, in_branch as branch_stands, in_optional as optional_stands, inherited, is_block, is_conditional, is_inheriting, is_optional, top}
use Rattle.cil_blocks.specs.Entries.{statement_at}
use Rattle.cil_blocks.specs.OneStanding.{AreApart}
use Rattle.cil_blocks.specs.Places.{AreStandings, Standings, entries_in, statements_in}
use Rattle.cil_blocks.proofs.EntryLemmas.{standings_length}
use Rattle.cil_blocks.proofs.ProgramLemmas.{are_apart}
use Rattle.cil_macros.specs.declared.chain.Brought.{Brought}
use Rattle.cil_macros.specs.declared.entry.Called.{Called}
use Rattle.cil_macros.specs.Brings.{AreCallMarks, AreMarked, BringsOther, LeadsToOther, at_once, further}
use Rattle.cil_macros.specs.CallPlaces.{CameThrough, is_for_branches}
use Rattle.cil_macros.specs.Calls.{IsPlaced, Unfolded, called, in_branch, in_optional, is_call, placed_cmp, stands, unfolded}
use Rattle.cil_macros.specs.Entries.{placed_through, placed_under}
use Rattle.cil_macros.specs.Macros.{all_standing}
use Rattle.cil_macros.specs.Placed.{Placed, placed_standing}
use Rattle.cil_macros.specs.Walks.{AreBrought, placed_in, written_in}
use Rattle.cil_macros.proofs.BodyLemmas.{brought_at, called_statement, standing_at}
use Rattle.cil_macros.proofs.EntryLemmas.{placed_length}
use Rattle.cil_macros.proofs.RoundLemmas.{at_one_place}
use Rattle.cil_macros.proofs.WrittenLemmas.{stands_written, written_of}

-- ---- trails

no_more : (ps : List Spot) (q : Spot) (qs : List Spot) → [] ≡ ps ++ q ∷ qs → ⊥
no_more [] q qs f = never_cons q qs f
no_more (p ∷ ps) q qs f = never_cons p (ps ++ q ∷ qs) f

-- a list with one element more that goes on behind another list: without that element it is the other list, or goes on behind it
split_end : (xs ys : List Spot) (x y : Spot) (more : List Spot) → xs ++ x ∷ [] ≡ ys ++ y ∷ more
    → ((xs ≡ ys) × (more ≡ [])) ⊎ ((a : Spot) × (rest : List Spot) × (xs ≡ ys ++ a ∷ rest))
split_end [] [] x y more e = inl (refl, sym (cons_tail x y [] more e))
split_end [] (z ∷ zs) x y more e = absurd (no_more zs y more (cons_tail x z [] (zs ++ y ∷ more) e))
split_end (u ∷ us) [] x y more e = inr (u, us, refl)
split_end (u ∷ us) (z ∷ zs) x y more e =
    let head = cons_head u z (us ++ x ∷ []) (zs ++ y ∷ more) e in
    elim (split_end us zs x y more (cons_tail u z (us ++ x ∷ []) (zs ++ y ∷ more) e)) [
      | inl same ↦ inl ((λ i. head i ∷ same.0 i), same.1)
      | inr on ↦ inr (on.0, on.1, λ i. head i ∷ on.2 i)
    ]

-- a trail ends with the place of the statement
pub record IsEnded (s : Standing) : Type 0 where
  pub before : List Spot
  pub is : s.trail ≡ before ++ s.statement.statement.at ∷ []

call_no_block : (k : Keyword) → is_call k ≡ true → is_block k ≡ true → ⊥
call_no_block keywords.Call a b = cc
call_no_block k a b = cc

call_no_optional : (k : Keyword) → is_call k ≡ true → is_optional k ≡ true → ⊥
call_no_optional keywords.Call a b = cc
call_no_optional k a b = cc

call_no_booleanif : (k : Keyword) → is_call k ≡ true → is_conditional k ≡ true → ⊥
call_no_booleanif keywords.Call a b = cc
call_no_booleanif k a b = cc

call_no_inheriting : (k : Keyword) → is_call k ≡ true → is_inheriting k ≡ true → ⊥
call_no_inheriting keywords.Call a b = cc
call_no_inheriting k a b = cc

module _ (ws : List Written) where
  pub stands_ended : (s : Standing) → Stands ws s → IsEnded s
  stands_ended s (top w c u) = record { before = []; is = refl }
  stands_ended s (in_block p w sp b a c u) = record { before = p.trail; is = refl }
  stands_ended s (optional_stands p w sp o c u) = record { before = p.trail; is = refl }
  stands_ended s (branch_stands p w sp o c u) = record { before = p.trail; is = refl }
  stands_ended s (inherited p b w sp i t c u) = record { before = p.trail; is = refl }

  -- ---- what stands came through no call

  module _ (one : (v w : Written) → Contains ws v → Contains ws w → v.statement.at ≡ w.statement.at → v ≡ w)
      (by : Standing) (written : Contains ws by.statement) (ended : IsEnded by) (call : is_call by.statement.statement.keyword ≡ true) where
    same_keyword : (s : Standing) → Stands ws s → s.trail ≡ by.trail → (f : Keyword → Bool) → f s.statement.statement.keyword ≡ true
        → f by.statement.statement.keyword ≡ true
    same_keyword s st e f is =
        let a = stands_ended s st in
        let ends = same_ends a.before ended.before s.statement.statement.at by.statement.statement.at (sym a.is ∙ e ∙ ended.is) in
        ap (λ (w : Written). f w.statement.keyword) (sym (one s.statement by.statement (stands_written ws s st) written ends.1)) ∙ is

    pub came_through_none : (s : Standing) (y : Spot) (more : List Spot) → Stands ws s → s.trail ≡ by.trail ++ y ∷ more → ⊥
    came_through_none s y more (top w c u) e =
        elim (split_end [] by.trail w.statement.at y more e) [
          | inl x ↦ never_empty by.statement.statement.at by.statement.statement.at ended.before (x.0 ∙ ended.is)
          | inr x ↦ no_more by.trail x.0 x.1 x.2
        ]
    came_through_none s y more (in_block p w sp b a c u) e =
        elim (split_end p.trail by.trail w.statement.at y more e) [
          | inl x ↦ call_no_block by.statement.statement.keyword call (same_keyword p sp x.0 is_block b)
          | inr x ↦ came_through_none p x.0 x.1 sp x.2
        ]
    came_through_none s y more (optional_stands p w sp o c u) e =
        elim (split_end p.trail by.trail w.statement.at y more e) [
          | inl x ↦ call_no_optional by.statement.statement.keyword call (same_keyword p sp x.0 is_optional o)
          | inr x ↦ came_through_none p x.0 x.1 sp x.2
        ]
    came_through_none s y more (branch_stands p w sp o c u) e =
        elim (split_end p.trail by.trail w.statement.at y more e) [
          | inl x ↦ call_no_booleanif by.statement.statement.keyword call (same_keyword p sp x.0 is_conditional o)
          | inr x ↦ came_through_none p x.0 x.1 sp x.2
        ]
    came_through_none s y more (inherited p b w sp i t c u) e =
        elim (split_end p.trail by.trail w.statement.at y more e) [
          | inl x ↦ call_no_inheriting by.statement.statement.keyword call (same_keyword p sp x.0 is_inheriting i)
          | inr x ↦ came_through_none p x.0 x.1 sp x.2
        ]

  module _ (ss : List Standing) (each : (s : Standing) → Contains ss s → Stands ws s) where
    pub placed_ended : (p : Placed) → IsPlaced ws ss p → IsEnded p.standing
    placed_ended p (stands s c) = stands_ended s (each s c)
    placed_ended p (called q u w iq e c i) = record { before = q.standing.trail; is = refl }
    placed_ended p (in_optional q b w iq e o c i) = record { before = q.standing.trail; is = refl }
    placed_ended p (in_branch q b w iq e o c i) = record { before = q.standing.trail; is = refl }

-- ---- what is brought

pub through_trail : (ws : List Written) (p : Placed) (o : Option Unfolded) (w : Written) → (placed_through ws p o w).standing.trail ≡ p.standing.trail ++ w.statement.at ∷ []
through_trail ws p None w = refl
through_trail ws p (Some u) w = refl

unmade : (b : Bool) → not b ≡ true → b ≡ false
unmade true e = absurd (let f : false ≡ true = e in cc)
unmade false e = refl

made : (b : Bool) → b ≡ false → not b ≡ true
made true e = absurd (let f : true ≡ false = e in cc)
made false e = refl

module _ (s : Standings) (b : Brought) (are_standings : AreStandings s) (brought : AreBrought s b)
    (placed : Lists placed_cmp (IsPlaced (written_in s) (all_standing s)) (placed_in s b.entries.items)) where
  abbrev ws : List Written
  ws = written_in s

  abbrev ss : List Standing
  ss = all_standing s

  abbrev cs : List Called
  cs = b.entries.items

  abbrev ps : List Placed
  ps = placed_in s cs

  each_stands : (m : Standing) → Contains ss m → Stands ws m
  each_stands m c = (are_standings.contents.standings.members m).0 c

  abbrev apart : AreApart ws
  apart = are_apart (statements_in s) are_standings.contents.nested

  placed_there : (k : ℕ) (p : Placed) → slice_get ps k ≡ Some p → IsPlaced ws ss p
  placed_there k p e = (placed.members p).0 (get_contains ps k p e)

  -- a statement that is brought, and what opened it
  record IsOpened (j : ℕ) (c : Called) : Type 0 where
    pub there : Placed
    pub is : slice_get ps (length ss + j) ≡ Some there
    pub statement : there.standing.statement ≡ statement_at ws c.statement
    pub opener : Placed
    pub is_opener : slice_get ps c.opener ≡ Some opener
    pub at : Spot
    pub trail : there.standing.trail ≡ opener.standing.trail ++ at ∷ []

  opened : (j : ℕ) (c : Called) → slice_get cs j ≡ Some c → IsOpened j c
  opened j c e =
      let before = (brought.bodies.brought j c e).before in
      let h = in_range cs j c e in
      let l = placed_length ws ss cs in
      let q = some_at ps c.opener (omega (arith, before, h, l)) in
      let is = brought_at ws ss cs j c e before ∙ ap (λ o. Some (placed_under ws ss o (statement_at ws c.statement))) q.1 in
      record {
        there = placed_through ws q.0 (unfolded ws ss q.0) (statement_at ws c.statement);
        is = is;
        statement = called_statement ws ss cs j c (placed_through ws q.0 (unfolded ws ss q.0) (statement_at ws c.statement)) e is;
        opener = q.0;
        is_opener = q.1;
        at = (statement_at ws c.statement).statement.at;
        trail = through_trail ws q.0 (unfolded ws ss q.0) (statement_at ws c.statement);
      }

  -- ---- what leads to such a statement brings it

  brings : (k : ℕ) (p : Placed) → slice_get ps k ≡ Some p → LeadsToOther ws cs (length ss) k → BringsOther ws ss p
  brings k p here (at_once j c n e o other) =
      let x = opened j c e in
      let same : x.opener ≡ p = some_same x.opener p (sym x.is_opener ∙ ap (slice_get ps) o ∙ here) in
      record {
        other = x.there;
        placed = placed_there (length ss + j) x.there x.is;
        through = record { at = x.at; more = []; so = x.trail ∙ ap (λ (q : Placed). q.standing.trail ++ x.at ∷ []) same };
        misplaced = ap (λ (w : Written). is_for_branches w.statement.keyword) x.statement ∙ unmade (is_for_branches (statement_at ws c.statement).statement.keyword) other;
      }
  brings k p here (further j c n e o r) =
      let x = opened j c e in
      let same : x.opener ≡ p = some_same x.opener p (sym x.is_opener ∙ ap (slice_get ps) o ∙ here) in
      let y = brings (length ss + j) x.there x.is r in
      record {
        other = y.other;
        placed = y.placed;
        through = record {
          at = x.at;
          more = y.through.at ∷ y.through.more;
          so = y.through.so
              ∙ ap (λ t. t ++ y.through.at ∷ y.through.more) (x.trail ∙ ap (λ (q : Placed). q.standing.trail ++ x.at ∷ []) same)
              ∙ append_assoc p.standing.trail (x.at ∷ []) (y.through.at ∷ y.through.more);
        };
        misplaced = y.misplaced;
      }

  -- ---- and back

  module _ (k : ℕ) (p : Placed) (here : slice_get ps k ≡ Some p) (call : is_call p.standing.statement.statement.keyword ≡ true) where
    not_standing : (m : ℕ) (q : Placed) → m < length ss → slice_get ps m ≡ Some q → CameThrough p q → ⊥
    not_standing m q h there x =
        let t = some_at ss m h in
        let same : q ≡ placed_standing t.0 = some_same q (placed_standing t.0) (sym there ∙ standing_at ws ss cs m t.0 t.1) in
        let ip = placed_there k p here in
        came_through_none ws apart.one p.standing (written_of ws ss each_stands p ip) (placed_ended ws ss each_stands p ip) call t.0 x.at x.more
        (each_stands t.0 (get_contains ss m t.0 t.1)) (ap (λ (r : Placed). r.standing.trail) (sym same) ∙ x.so)

    -- it may not be in a branch, or it leads to what may not
    abbrev Leads : ℕ → Placed → Type 0
    Leads m q = (is_for_branches q.standing.statement.statement.keyword ≡ false) ⊎ LeadsToOther ws cs (length ss) m

    leads_from : (j : ℕ) (c : Called) (e : slice_get cs j ≡ Some c) (q : Placed) → slice_get ps (length ss + j) ≡ Some q → Leads (length ss + j) q
        → LeadsToOther ws cs (length ss) c.opener
    leads_from j c e q there (inl other) =
        let x = opened j c e in
        let same : q ≡ x.there = some_same q x.there (sym there ∙ x.is) in
        at_once j c c.opener e refl
        (made (is_for_branches (statement_at ws c.statement).statement.keyword)
        (ap (λ (w : Written). is_for_branches w.statement.keyword) (sym x.statement)
        ∙ ap (λ (r : Placed). is_for_branches r.standing.statement.statement.keyword) (sym same) ∙ other))
    leads_from j c e q there (inr r) = further j c c.opener e refl r

    behind : (a c : ℕ) → c ≤ a → (j : ℕ) × (a ≡ c + j)
    behind a zero g = (a, omega arith)
    behind zero (suc c) g = absurd (omega (arith, g))
    behind (suc a) (suc c) g = let r = behind a c (omega (arith, g)) in let e = r.1 in (r.0, omega (arith, e))

    -- one step back, where it is known of lower places
    brought_leads_by : (m j : ℕ) (q : Placed) → m ≡ length ss + j → slice_get ps m ≡ Some q → CameThrough p q → Leads m q
        → ((o : ℕ) (r : Placed) → o < m → slice_get ps o ≡ Some r → CameThrough p r → Leads o r → LeadsToOther ws cs (length ss) k) → LeadsToOther ws cs (length ss) k
    brought_leads_by m j q place there x leads again =
        let r = in_range ps m q there in
        let l = placed_length ws ss cs in
        let c = some_at cs j (omega (arith, r, l, place)) in
        let y = opened j c.0 c.1 in
        let before = (brought.bodies.brought j c.0 c.1).before in
        let at_m : slice_get ps (length ss + j) ≡ Some q = ap (slice_get ps) (sym place) ∙ there in
        let same : q ≡ y.there = some_same q y.there (sym at_m ∙ y.is) in
        let trail : y.opener.standing.trail ++ y.at ∷ [] ≡ p.standing.trail ++ x.at ∷ x.more = sym y.trail ∙ ap (λ (z : Placed). z.standing.trail) (sym same) ∙ x.so in
        let on = leads_from j c.0 c.1 q at_m (subst (λ i. Leads i q) place leads) in
        elim (split_end y.opener.standing.trail p.standing.trail y.at x.at x.more trail) [
          | inl one ↦ subst (LeadsToOther ws cs (length ss)) (at_one_place ws ss apart each_stands ps placed c.0.opener k y.opener p y.is_opener here one.0) on
          | inr z ↦ again c.0.opener y.opener (omega (arith, before, place)) y.is_opener (record { at = z.0; more = z.1; so = z.2 }) (inr on)
        ]

    leads_below : (n m : ℕ) (q : Placed) → m < n → slice_get ps m ≡ Some q → CameThrough p q → Leads m q → LeadsToOther ws cs (length ss) k
    leads_below zero m q h there x leads = absurd (omega (arith, h))
    leads_below (suc n) m q h there x leads =
        elim (cases_lt m (length ss)) [
          | inl less ↦ absurd (not_standing m q less there x)
          | inr ge ↦ let j = behind m (length ss) ge in
              brought_leads_by m j.0 q j.1 there x leads (λ o r g at y on. leads_below n o r (omega (arith, g, h)) at y on)
        ]

    brought_leads : BringsOther ws ss p → LeadsToOther ws cs (length ss) k
    brought_leads x =
        let m = get_at ps x.other ((placed.members x.other).1 x.placed) in
        leads_below (suc m.0) m.0 x.other (omega arith) m.2 x.through (inl x.misplaced)

  pub call_marks : (marks : List Bool) → AreMarked ws cs (length (entries_in s)) marks → AreCallMarks ws ss ps marks
  call_marks marks are k p here call =
      let so = subst (λ n. AreMarked ws cs n marks) (sym (standings_length ws (entries_in s))) are in (
        (λ m. brings k p here ((so k).0 m)),
        (λ x. (so k).1 (brought_leads k p here call x)),
      )

-- what opened a statement stands before it
pub opened_before : (s : Standings) (b : Brought) → AreBrought s b → (j : ℕ) (c : Called) → slice_get b.entries.items j ≡ Some c → c.opener < length (entries_in s) + j
opened_before s b brought j c e =
    let before = (brought.bodies.brought j c e).before in
    let l = standings_length (written_in s) (entries_in s) in
    omega (arith, before, l)

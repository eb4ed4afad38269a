-- The innermost optional round what is placed, and its branch, by what opened it.
use Rattle.std.proofs.Common.{◌≡◌, ℕ, zero, suc, ◌+◌, ◌<◌, ◌≤◌, true, false, if◌then◌else◌, List, [], ◌∷◌, ◌++◌, get_or, length, map, take, refl, sym, ◌∙◌, ap, subst, inl, inr, arith}
use Rattle.std.specs.Prelude.{IfSome, MatchOption, Option, Some, None, slice_get}
use Rattle.std.proofs.lemmas.Bool.{cases_lt}
use Rattle.std.proofs.lemmas.List.{length-map, length-take-le, map-append, take_all, take_more}
use Rattle.cil_base.specs.Places.{at_or_last, get_contains, get_so, in_range, never_cons, none_some, some_at, some_same}
use Rattle.cil_syntax.specs.declared.kind.Keyword.{Keyword}
use Rattle.cil_syntax.specs.declared.kind.Keyword.TheVariants as keywords
use Rattle.cil_faults.specs.declared.spot.Spot.{Spot}
use Rattle.cil_syntax.specs.Written.{Written}
use Rattle.cil_blocks.specs.Branches.{branch_value}
use Rattle.cil_blocks.specs.Contents.{Branch, Standing, condition_of, is_conditional, is_optional, keeps_place}
use Rattle.cil_blocks.specs.Entries.{standing_as, standing_through, standing_under, statement_at}
use Rattle.cil_blocks.specs.Named.{rank}
use Rattle.cil_blocks.specs.Opens.{target_of}
use Rattle.cil_blocks.specs.Places.{Standings, entries_in}
use Rattle.cil_blocks.proofs.EntryLemmas.{as_statement, standings_length}
use Rattle.cil_blocks.proofs.Keeping.{no_conditional, no_optional}
use Rattle.cil_macros.specs.declared.entry.Body.{Body}
use Rattle.cil_macros.specs.declared.entry.Called.{Called}
use Rattle.cil_macros.specs.Calls.{placed_called}
use Rattle.cil_macros.specs.Entries.{AreBodies, IsInnerOf, IsOf, placed_through, placed_under}
use Rattle.cil_macros.specs.Item.{Item, front, innermost}
use Rattle.cil_macros.specs.Items.{Kept, all_placed, item_at, item_of, items_in, placed_at}
use Rattle.cil_macros.specs.Macros.{all_standing}
use Rattle.cil_macros.specs.Nearest.{IsOpenedBy}
use Rattle.cil_macros.specs.Nesting.{AreInnermost, IsOpenedThere, IsOutside, branch_in, innermost_in, innermost_rank, round_in}
use Rattle.cil_macros.specs.Opens.{placed_inside}
use Rattle.cil_macros.specs.Placed.{Placed, condition_there, meaning, placed_standing, word_of}
use Rattle.cil_macros.specs.Rounds.{AreNested, number_of, round_of}
use Rattle.cil_macros.specs.Walks.{placed_in, written_in}
use Rattle.cil_macros.proofs.BodyLemmas.{brought_at, called_statement, is_brought, mapped_get, standing_at}
use Rattle.cil_macros.proofs.CallLemmas.{stood_at}
use Rattle.cil_macros.proofs.CalledMacros.{is_macro_call, kept_opens_none}
use Rattle.cil_macros.proofs.PlacedLemmas.{items_many, none_beyond, placed_beyond, placed_so}
use Rattle.cil_macros.proofs.PlacedWalk.{call_keeps_none, chosen_false, chosen_true}

-- ---- what is round what something opens

through_round : (s : Standing) (o : Option Written) (w : Written) → (standing_through s o w).round ≡ s.round
through_round s None w = refl
through_round s (Some b) w = refl

standing_round : (ws : List Written) (s : Standing) (k : Keyword) (w : Written) → (standing_as ws s k w).round ≡ (if is_optional k then s.trail ∷ s.round else s.round)
standing_round ws s keywords.BlockInherit w = through_round s (target_of ws s.statement) w
standing_round ws s k w = refl

-- ---- in which branch is what something opens

through_branch : (s : Standing) (o : Option Written) (w : Written) → (standing_through s o w).branch ≡ s.branch
through_branch s None w = refl
through_branch s (Some b) w = refl

-- the branch of what a standing statement opens
branch_by : Standing → Keyword → Spot → Option Branch
branch_by s k at = if is_conditional k then Some (condition_of s, branch_value s.statement.statement.args at) else s.branch

standing_branch : (ws : List Written) (s : Standing) (k : Keyword) (w : Written) → (standing_as ws s k w).branch ≡ branch_by s k w.statement.at
unfolding branch_by
standing_branch ws s keywords.BlockInherit w = through_branch s (target_of ws s.statement) w
standing_branch ws s k w = refl

-- the words of what stands without calls are in the scope of its place
condition_stands : (ws : List Written) (s : Standing) → condition_of s ≡ condition_there ws (placed_standing s)
unfolding word_of meaning
condition_stands ws s = refl

stands_in_branch : (ws : List Written) (s : Standing) (w : Written)
    → (standing_as ws s s.statement.statement.keyword w).branch ≡ branch_in ws (placed_standing s) w.statement.at
unfolding branch_by
stands_in_branch ws s w =
    standing_branch ws s s.statement.statement.keyword w
    ∙ ap (λ c. if is_conditional s.statement.statement.keyword then Some (c, branch_value s.statement.statement.args w.statement.at) else s.branch) (condition_stands ws s)

branch_of_other : (ws : List Written) (p : Placed) (at : Spot) → keeps_place p.standing.statement.statement.keyword ≡ false → branch_in ws p at ≡ p.standing.branch
branch_of_other ws p at e =
    chosen_false (is_conditional p.standing.statement.statement.keyword) (Some (condition_there ws p, branch_value p.standing.statement.statement.args at)) p.standing.branch
    (no_conditional p.standing.statement.statement.keyword e)

round_of_optional : (p : Placed) → is_optional p.standing.statement.statement.keyword ≡ true → round_in p ≡ p.standing.trail ∷ p.standing.round
round_of_optional p e = chosen_true (is_optional p.standing.statement.statement.keyword) (p.standing.trail ∷ p.standing.round) p.standing.round e

round_of_other : (p : Placed) → is_optional p.standing.statement.statement.keyword ≡ false → round_in p ≡ p.standing.round
round_of_other p e = chosen_false (is_optional p.standing.statement.statement.keyword) (p.standing.trail ∷ p.standing.round) p.standing.round e

module _ (s : Standings) (cs : List Called) where
  abbrev ws : List Written
  ws = written_in s

  abbrev ss : List Standing
  ss = all_standing s

  -- ---- what opened what stands

  pub stands_opened : (at : ℕ) → at < length (entries_in s) → (o : Option ℕ) → IfSome o (λ k. k < at) → ((m : Standing) → slice_get ss at ≡ Some m → IsOpenedBy ws ss m o)
      → MatchOption o (IsOutside (placed_in s cs) at) (IsOpenedThere ws (placed_in s cs) at)
  stands_opened at within None lower by = λ p here.
      let m = stood_at s cs at within p here in (
        ap (λ (q : Placed). q.standing.round) m.2 ∙ ap (λ (q : Standing). q.round) (by m.0 m.1).so,
        ap (λ (q : Placed). q.standing.branch) m.2 ∙ ap (λ (q : Standing). q.branch) (by m.0 m.1).so,
      )
  stands_opened at within (Some k) lower by =
      let l = standings_length ws (entries_in s) in
      let q = some_at ss k (omega (arith, within, lower, l)) in
      record {
        lower = lower;
        opener = placed_standing q.0;
        is = standing_at ws ss cs k q.0 q.1;
        round = λ p here.
            let m = stood_at s cs at within p here in
            let x = by m.0 m.1 in
            ap (λ (r : Placed). r.standing.round) m.2
            ∙ ap (λ (r : Standing). r.round) (x.so ∙ ap (λ i. standing_under ws i x.statement) q.1)
            ∙ standing_round ws q.0 q.0.statement.statement.keyword x.statement;
        branch = λ p here.
            let m = stood_at s cs at within p here in
            let x = by m.0 m.1 in
            let so : m.0 ≡ standing_as ws q.0 q.0.statement.statement.keyword x.statement = x.so ∙ ap (λ i. standing_under ws i x.statement) q.1 in
            let statement : p.standing.statement ≡ x.statement =
            ap (λ (r : Placed). r.standing.statement) m.2 ∙ ap (λ (r : Standing). r.statement) so ∙ as_statement ws q.0 q.0.statement.statement.keyword x.statement in
            ap (λ (r : Placed). r.standing.branch) m.2
            ∙ ap (λ (r : Standing). r.branch) so
            ∙ stands_in_branch ws q.0 x.statement
            ∙ ap (λ (w : Written). branch_in ws (placed_standing q.0) w.statement.at) (sym statement);
      }

  -- ---- what opened what a call brought

  module _ (bs : List Body) (are : AreBodies ws ss cs bs) where
    by_call : (j : ℕ) (c : Called) → slice_get cs j ≡ Some c → (x : IsOf ws (length ss) cs bs (length ss + j) c) → x.body.call ≡ c.opener
        → IsOpenedThere ws (placed_in s cs) (length ss + j) c.opener
    by_call j c there x same =
        let b = are.each c.body x.body x.is_body in
        let opener = ap (slice_get (placed_in s cs)) (sym same) ∙ b.is_call in
        let other = call_keeps_none b.call.standing.statement.statement.keyword (is_macro_call ws ss b.call b.opened b.is_opened).call in
        let is : (p : Placed) → slice_get (placed_in s cs) (length ss + j) ≡ Some p → p ≡ placed_called b.call b.opened (statement_at ws c.statement) =
        λ p here. some_same p (placed_called b.call b.opened (statement_at ws c.statement))
        (sym here ∙ brought_at ws ss cs j c there x.before
        ∙ ap (λ q. Some (placed_under ws ss q (statement_at ws c.statement))) opener
        ∙ ap (λ q. Some (placed_through ws b.call q (statement_at ws c.statement))) b.is_opened) in
        record {
          lower = x.before;
          opener = b.call;
          is = opener;
          round = λ p here.
              ap (λ (q : Placed). q.standing.round) (is p here)
              ∙ sym (round_of_other b.call (no_optional b.call.standing.statement.statement.keyword other));
          branch = λ p here.
              ap (λ (q : Placed). q.standing.branch) (is p here) ∙ sym (branch_of_other ws b.call p.standing.statement.statement.at other);
        }

    by_inner : (j : ℕ) (c : Called) → slice_get cs j ≡ Some c → c.opener < length ss + j → IsInnerOf ws cs (length ss) c.opener c.body
        → IsOpenedThere ws (placed_in s cs) (length ss + j) c.opener
    by_inner j c there before x =
        let b = is_brought ws ss cs bs are x.rank x.called x.is in
        let opener = ap (slice_get (placed_in s cs)) x.behind ∙ b.placed in
        let kept = ap (λ (w : Written). keeps_place w.statement.keyword) (called_statement ws ss cs x.rank x.called b.there x.is b.placed) ∙ x.keeps in
        let is : (p : Placed) → slice_get (placed_in s cs) (length ss + j) ≡ Some p → p ≡ placed_inside ws b.there (statement_at ws c.statement) =
        λ p here. some_same p (placed_inside ws b.there (statement_at ws c.statement))
        (sym here ∙ brought_at ws ss cs j c there before
        ∙ ap (λ q. Some (placed_under ws ss q (statement_at ws c.statement))) opener
        ∙ ap (λ q. Some (placed_through ws b.there q (statement_at ws c.statement))) (kept_opens_none ws ss b.there kept)) in
        record {
          lower = before;
          opener = b.there;
          is = opener;
          round = λ p here. ap (λ (q : Placed). q.standing.round) (is p here);
          branch = λ p here.
              ap (λ (q : Placed). q.standing.branch) (is p here)
              ∙ ap (λ (q : Placed). branch_in ws b.there q.standing.statement.statement.at) (sym (is p here));
        }

    pub brought_inside : (at j : ℕ) (c : Called) → at ≡ length (entries_in s) + j → slice_get cs j ≡ Some c → IsOpenedThere ws (placed_in s cs) at c.opener
    brought_inside at j c place there =
        let l = standings_length ws (entries_in s) in
        let x = are.brought j c there in
        let behind : length ss + j ≡ at = omega (arith, place, l) in
        subst (λ k. IsOpenedThere ws (placed_in s cs) k c.opener) behind
        (elim x.opened [
          | inl same ↦ by_call j c there x same
          | inr o ↦ by_inner j c there x.before o
        ])

-- ---- one number after another

module _ (ps : List Placed) where
  pub none_innermost : (numbers : List ℕ) → numbers ≡ [] → AreInnermost ps 0 numbers
  none_innermost numbers e = record { so = e; lower = λ i n f. absurd (none_some n (ap (λ xs. slice_get xs i) (sym e) ∙ f)) }

  pub one_innermost : (at : ℕ) (numbers new : List ℕ) (n : ℕ) (p : Placed) → slice_get ps at ≡ Some p → n ≡ innermost_rank ps p → n ≤ at → new ≡ numbers ++ n ∷ []
      → AreInnermost ps at numbers → AreInnermost ps (at + 1) new
  one_innermost at numbers new n p here is low e so =
      let within = in_range ps at p here in
      let many = ap length so.so ∙ length-map (take at ps) (innermost_rank ps) ∙ length-take-le at ps (omega (arith, within)) in
      record {
        so = e ∙ (λ i. so.so i ++ is i ∷ [])
            ∙ ap (λ (q : Placed). map (innermost_rank ps) (take at ps) ++ innermost_rank ps q ∷ []) (sym (get_so ps at p p here))
            ∙ sym (map-append (innermost_rank ps) (take at ps) (get_or ps at p ∷ []))
            ∙ ap (map (innermost_rank ps)) (sym (take_more ps at p within));
        lower = λ i m f. elim (at_or_last numbers n m i (ap (λ xs. slice_get xs i) (sym e) ∙ f)) [
          | inl g ↦ so.lower i m g
          | inr g ↦ let last = g.0 in let same = g.1 in omega (arith, last, same, many, low)
        ];
      }

  pub all_innermost : (at : ℕ) (numbers : List ℕ) → length ps ≤ at → AreInnermost ps at numbers → AreInnermost ps (length ps) numbers
  all_innermost at numbers over so = record {
    so = so.so ∙ ap (map (innermost_rank ps)) (take_all at ps over ∙ sym (take_all (length ps) ps (omega arith)));
    lower = so.lower;
  }

  -- the number of a lower place is known
  known_there : (at : ℕ) (numbers : List ℕ) → AreInnermost ps at numbers → (place : ℕ) (q : Placed) → place < at → slice_get ps place ≡ Some q
      → slice_get numbers place ≡ Some (innermost_rank ps q)
  known_there at numbers so place q less there =
      ap (λ xs. slice_get xs place) so.so
      ∙ mapped_get (innermost_rank ps) (take at ps) place q (taken at ps place less ∙ there)
    where
      taken : (n : ℕ) (xs : List Placed) (k : ℕ) → k < n → slice_get (take n xs) k ≡ slice_get xs k
      taken zero xs k h = absurd (omega (arith, h))
      taken (suc n) [] k h = refl
      taken (suc n) (x ∷ xs) zero h = refl
      taken (suc n) (x ∷ xs) (suc k) h = taken n xs k (omega (arith, h))

  -- ---- the next number

  module _ (at : ℕ) (numbers : List ℕ) (so : AreInnermost ps at numbers) where
    pub outside_rank : IsOutside ps at → (p : Placed) → slice_get ps at ≡ Some p → 0 ≡ innermost_rank ps p
    outside_rank none p here = ap (λ r. rank (front (map (number_of ps) r))) (sym (none p here).0)

    module _ (ws : List Written) (place : ℕ) (x : IsOpenedThere ws ps at place) where
      pub optional_rank : number_of ps x.opener.standing.trail ≡ place → is_optional x.opener.standing.statement.statement.keyword ≡ true
          → (p : Placed) → slice_get ps at ≡ Some p → place + 1 ≡ innermost_rank ps p
      optional_rank number e p here =
          (let f : place + 1 ≡ suc place = omega arith in f)
          ∙ ap suc (sym number)
          ∙ ap (λ r. rank (front (map (number_of ps) r))) (sym (x.round p here ∙ round_of_optional x.opener e))

      same_rank : is_optional x.opener.standing.statement.statement.keyword ≡ false → (p : Placed) → slice_get ps at ≡ Some p
          → innermost_rank ps x.opener ≡ innermost_rank ps p
      same_rank e p here = ap (λ r. rank (front (map (number_of ps) r))) (sym (x.round p here ∙ round_of_other x.opener e))

      pub never_unknown : slice_get numbers place ≡ None → ⊥
      never_unknown none = none_some (innermost_rank ps x.opener) (sym none ∙ known_there at numbers so place x.opener x.lower x.is)

      pub other_rank : (n : ℕ) → slice_get numbers place ≡ Some n → is_optional x.opener.standing.statement.statement.keyword ≡ false
          → (p : Placed) → slice_get ps at ≡ Some p → n ≡ innermost_rank ps p
      other_rank n e f p here =
          some_same n (innermost_rank ps x.opener) (sym e ∙ known_there at numbers so place x.opener x.lower x.is) ∙ same_rank f p here

      pub other_low : (n : ℕ) → slice_get numbers place ≡ Some n → n ≤ at
      other_low n e = let h = so.lower place n e in let l = x.lower in omega (arith, h, l)

-- ---- all numbers

module _ (ps : List Placed) (numbers : List ℕ) (so : AreInnermost ps (length ps) numbers) where
  all_known : numbers ≡ map (innermost_rank ps) ps
  all_known = so.so ∙ ap (map (innermost_rank ps)) (take_all (length ps) ps (omega arith))

  pub number_there : (at : ℕ) (p : Placed) → slice_get ps at ≡ Some p → slice_get numbers at ≡ Some (innermost_rank ps p)
  number_there at p here = ap (λ xs. slice_get xs at) all_known ∙ mapped_get (innermost_rank ps) ps at p here

  none_there : (at : ℕ) → slice_get numbers at ≡ None → slice_get ps at ≡ None
  none_there at none = either (slice_get ps at) refl
    where
      either : (o : Option Placed) → slice_get ps at ≡ o → slice_get ps at ≡ None
      either None e = e
      either (Some p) e = absurd (none_some (innermost_rank ps p) (sym none ∙ number_there at p e))

  pub unknown_there : (at : ℕ) → slice_get numbers at ≡ None → None ≡ innermost_in ps (slice_get ps at)
  unknown_there at none = ap (innermost_in ps) (sym (none_there at none))

  by_rank : (o : Option ℕ) (n : ℕ) → n ≡ rank o → (n ≡ 0 → None ≡ o) × ((k : ℕ) → n ≡ suc k → Some k ≡ o)
  by_rank None n e = ((λ f. refl), (λ k f. absurd (omega (arith, e, f))))
  by_rank (Some i) n e = ((λ f. absurd (omega (arith, e, f))), (λ k f. ap Some (let same : k ≡ i = omega (arith, e, f) in same)))

  known_rank : (at n : ℕ) → slice_get numbers at ≡ Some n → (o : Option Placed) → slice_get ps at ≡ o
      → (n ≡ 0 → None ≡ innermost_in ps o) × ((k : ℕ) → n ≡ suc k → Some k ≡ innermost_in ps o)
  known_rank at n e None f =
      let h = in_range numbers at n e in
      let l = ap length all_known ∙ length-map ps (innermost_rank ps) in
      absurd (let over = not_in at f in omega (arith, h, l, over))
    where
      not_in : (k : ℕ) → slice_get ps k ≡ None → length ps ≤ k
      not_in k none = elim (cases_lt k (length ps)) [
        | inl less ↦ let x = some_at ps k less in absurd (none_some x.0 (sym none ∙ x.1))
        | inr ge ↦ ge
      ]
  known_rank at n e (Some p) f = by_rank (front (round_of ps p)) n (some_same n (innermost_rank ps p) (sym e ∙ number_there at p f))

  pub no_innermost : (at n : ℕ) → slice_get numbers at ≡ Some n → n ≡ 0 → None ≡ innermost_in ps (slice_get ps at)
  no_innermost at n e z = (known_rank at n e (slice_get ps at) refl).0 z

  pub some_innermost : (at n k : ℕ) → slice_get numbers at ≡ Some n → n ≡ suc k → Some k ≡ innermost_in ps (slice_get ps at)
  some_innermost at n k e f = (known_rank at n e (slice_get ps at) refl).1 k f

-- ---- as it is handed up

module _ (i : Kept) where
  -- beyond the last place there is none
  pub innermost_there : (at : ℕ) → innermost_in (all_placed i) (slice_get (all_placed i) at) ≡ innermost (item_at i at)
  innermost_there at =
      elim (cases_lt at (length (entries_in i.0) + length i.1)) [
        | inl less ↦ ap (innermost_in (all_placed i)) (placed_so i at less)
        | inr ge ↦ ap (innermost_in (all_placed i)) (none_beyond i at ge)
            ∙ ap (λ (p : Placed). front (round_of (all_placed i) p)) (sym (placed_beyond i at ge))
      ]

  item_beyond : (at : ℕ) → length (entries_in i.0) + length i.1 ≤ at → (item_at i at).round ≡ []
  item_beyond at h = ap (λ (p : Placed). round_of (all_placed i) p) (placed_beyond i at h)

  item_there : (at : ℕ) → at < length (entries_in i.0) + length i.1 → slice_get (items_in i) at ≡ Some (item_at i at)
  item_there at h = mapped_get (item_of (written_in i.0) (all_standing i.0) (all_placed i)) (all_placed i) at (placed_at i at) (placed_so i at h)

  module _ (nested : AreNested (items_in i)) where
    -- round the innermost optional are the others
    others : (at o : ℕ) (os : List ℕ) → (item_at i at).round ≡ o ∷ os → (item_at i o).round ≡ os
    others at o os e =
        elim (cases_lt at (length (entries_in i.0) + length i.1)) [
          | inl less ↦ let y = nested (item_at i at) o os (get_contains (items_in i) at (item_at i at) (item_there at less)) e in
              let h = in_range (items_in i) o y.0 y.1 in
              let m = items_many i in
              ap (λ (x : Item). x.round) (some_same (item_at i o) y.0 (sym (item_there o (omega (arith, h, m))) ∙ y.1)) ∙ y.3
          | inr ge ↦ absurd (never_cons o os (sym (item_beyond at ge) ∙ e))
        ]

    by_round : (at : ℕ) (o : Option ℕ) (r : List ℕ) → (item_at i at).round ≡ r → o ≡ front r
        → MatchOption o ((item_at i at).round ≡ []) (λ k. (item_at i at).round ≡ k ∷ (item_at i k).round)
    by_round at None [] e f = e
    by_round at (Some k) [] e f = absurd (none_some k (sym f))
    by_round at None (k ∷ ks) e f = absurd (none_some k f)
    by_round at (Some o) (k ∷ ks) e f =
        let same = some_same o k f in
        e ∙ (λ j. sym same j ∷ sym (others at k ks e) j) ∙ ap (λ n. o ∷ (item_at i n).round) (sym same)

    pub round_there : (at : ℕ) (o : Option ℕ) → o ≡ innermost (item_at i at)
        → MatchOption o ((item_at i at).round ≡ []) (λ k. (item_at i at).round ≡ k ∷ (item_at i k).round)
    round_there at o e = by_round at o (item_at i at).round refl e

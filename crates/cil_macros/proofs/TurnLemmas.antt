-- Bodies in the order of their calls: how the walk keeps them so, and how that of a call is found.
use Rattle.std.proofs.Common.{◌≡◌, ℕ, ◌+◌, ◌<◌, ◌≤◌, ◌⊎◌, Bool, true, false, List, [], ◌∷◌, ◌++◌, length, get_or, sym, ◌∙◌, ap, subst, inl, inr, arith}
use Rattle.std.specs.Prelude.{Some, None, slice_get}
use Rattle.std.proofs.Math.Dec.{ltb}
use Rattle.std.specs.List.Sorted.{IsPartitionedBy, IsPartitionPoint}
use Rattle.std.proofs.lemmas.Bool.{cases_lt, lt-ltb, ltb-false, ltb-true}
use Rattle.cil_base.specs.Places.{at_or_last, get_in_front, get_last, get_so, in_range, is_there, none_some, some_same}
use Rattle.cil_blocks.specs.Places.{Standings, entries_in}
use Rattle.cil_blocks.proofs.EntryLemmas.{standings_length}
use Rattle.cil_macros.specs.declared.entry.Body.{Body}
use Rattle.cil_macros.specs.declared.entry.Called.{Called}
use Rattle.cil_macros.specs.Calls.{unfolded}
use Rattle.cil_macros.specs.Entries.{AreBodies}
use Rattle.cil_macros.specs.Macros.{all_standing}
use Rattle.cil_macros.specs.Placed.{Placed}
use Rattle.cil_macros.specs.Walks.{AreCallsRising, AreInTurn, HasNoBody, IsBodyOf, placed_in, written_in}
use Rattle.cil_macros.proofs.EntryLemmas.{placed_length}

module _ (s : Standings) where
  -- nothing is brought yet
  pub none_in_turn : (cs : List Called) (bs : List Body) → bs ≡ [] → AreInTurn s cs bs 0
  none_in_turn cs bs e = record {
    rising = λ i j a b less f g. absurd (none_some a (ap (λ xs. slice_get xs i) (sym e) ∙ f));
    before = λ i b f. absurd (none_some b (ap (λ xs. slice_get xs i) (sym e) ∙ f));
    all = λ k p u h f g. absurd (omega (arith, h));
  }

  -- what is no call that is unfolded has no body
  pub passed_in_turn : (cs : List Called) (bs : List Body) (at : ℕ) → AreInTurn s cs bs at
      → ((p : Placed) → slice_get (placed_in s cs) at ≡ Some p → unfolded (written_in s) (all_standing s) p ≡ None) → AreInTurn s cs bs (at + 1)
  passed_in_turn cs bs at turn none = record {
    rising = turn.rising;
    before = λ i b f. let h = turn.before i b f in omega (arith, h);
    all = λ k p u h f g.
        elim (cases_lt k at) [
          | inl less ↦ turn.all k p u less f g
          | inr ge ↦ let same : k ≡ at = omega (arith, h, ge) in absurd (none_some u (sym (none p (ap (slice_get (placed_in s cs)) (sym same) ∙ f)) ∙ g))
        ];
  }

  -- so it stays when more is placed
  pub turn_stays : (cs new : List Called) (bs : List Body) (at : ℕ) (more : List Placed) → at ≤ length (entries_in s) + length cs → placed_in s new ≡ placed_in s cs ++ more
      → AreInTurn s cs bs at → AreInTurn s new bs at
  turn_stays cs new bs at more within placed turn = record {
    rising = turn.rising;
    before = turn.before;
    all = λ k p u h f g.
        let l = placed_length (written_in s) (all_standing s) cs in
        let m = standings_length (written_in s) (entries_in s) in
        turn.all k p u h (sym (get_in_front (placed_in s cs) more k (omega (arith, h, within, l, m))) ∙ ap (λ ps. slice_get ps k) (sym placed) ∙ f) g;
  }

  module _ (cs new : List Called) (bs : List Body) (at : ℕ) (body : Body) (turn : AreInTurn s cs bs at) (more : List Placed)
      (within : at < length (entries_in s) + length cs) (placed : placed_in s new ≡ placed_in s cs ++ more) (by_call : body.call ≡ at) where
    each_rises : (i j : ℕ) (a b : Body) → i < j → (slice_get bs i ≡ Some a) ⊎ ((i ≡ length bs) × (body ≡ a)) → (slice_get bs j ≡ Some b) ⊎ ((j ≡ length bs) × (body ≡ b))
        → a.call < b.call
    each_rises i j a b less (inl e) (inl f) = turn.rising i j a b less e f
    each_rises i j a b less (inl e) (inr f) =
        let h = turn.before i a e in
        let last : b.call ≡ at = ap (λ (x : Body). x.call) (sym f.1) ∙ by_call in
        omega (arith, h, last)
    each_rises i j a b less (inr e) (inl f) = let h = in_range bs j b f in let n = e.0 in absurd (omega (arith, less, h, n))
    each_rises i j a b less (inr e) (inr f) = let m = e.0 in let n = f.0 in absurd (omega (arith, less, m, n))

    each_before : (i : ℕ) (b : Body) → (slice_get bs i ≡ Some b) ⊎ ((i ≡ length bs) × (body ≡ b)) → b.call < at + 1
    each_before i b (inl e) = let h = turn.before i b e in omega (arith, h)
    each_before i b (inr e) = let last : b.call ≡ at = ap (λ (x : Body). x.call) (sym e.1) ∙ by_call in omega (arith, last)

    in_old : (k : ℕ) (p : Placed) → k < at → slice_get (placed_in s new) k ≡ Some p → slice_get (placed_in s cs) k ≡ Some p
    in_old k p less e =
        let l = placed_length (written_in s) (all_standing s) cs in
        let m = standings_length (written_in s) (entries_in s) in
        sym (get_in_front (placed_in s cs) more k (omega (arith, less, within, l, m))) ∙ ap (λ ps. slice_get ps k) (sym placed) ∙ e

    still_of : (k number : ℕ) → IsBodyOf bs k number → IsBodyOf (bs ++ body ∷ []) k number
    still_of k number x = record {
      body = x.body;
      is = get_in_front bs (body ∷ []) number (in_range bs number x.body x.is) ∙ x.is;
      by_call = x.by_call;
    }

    -- one body more
    pub opened_in_turn : (after : List Body) → after ≡ bs ++ body ∷ [] → AreInTurn s new after (at + 1)
    opened_in_turn after e = subst (λ xs. AreInTurn s new xs (at + 1)) (sym e) (record {
      rising = λ i j a b less f g. each_rises i j a b less (at_or_last bs body a i f) (at_or_last bs body b j g);
      before = λ i b f. each_before i b (at_or_last bs body b i f);
      all = λ k p u h f g.
          elim (cases_lt k at) [
            | inl less ↦ let x = turn.all k p u less (in_old k p less f) g in (x.0, still_of k x.0 x.1)
            | inr ge ↦ let same : at ≡ k = omega (arith, h, ge) in
                (length bs, record { body = body; is = get_last bs body; by_call = by_call ∙ same })
          ];
    })

  -- all places are reached
  pub all_in_turn : (cs : List Called) (bs : List Body) (at : ℕ) → AreBodies (written_in s) (all_standing s) cs bs → length (entries_in s) + length cs ≤ at
      → AreInTurn s cs bs at → AreInTurn s cs bs (length (entries_in s) + length cs)
  all_in_turn cs bs at are over turn = record {
    rising = turn.rising;
    before = λ i b e.
        let x = are.each i b e in
        let h = in_range (placed_in s cs) b.call x.call x.is_call in
        let l = placed_length (written_in s) (all_standing s) cs in
        let m = standings_length (written_in s) (entries_in s) in
        omega (arith, h, l, m);
    all = λ k p u h f g. turn.all k p u (omega (arith, h, over)) f g;
  }

-- ---- the body of a call, by halving

-- a body is that of an earlier call
abbrev pub is_earlier : ℕ → Body → Bool
is_earlier at b = ltb b.call at

module _ (bs : List Body) (at : ℕ) (rising : AreCallsRising bs) where
  pub calls_parted : IsPartitionedBy (is_earlier at) bs
  calls_parted i j d le within e =
      elim (cases_lt i j) [
        | inl less ↦ let r = rising i j (get_or bs i d) (get_or bs j d) less (is_there bs i d (omega (arith, less, within))) (is_there bs j d within) in
            let h = ltb-true (get_or bs j d).call at e in
            lt-ltb (get_or bs i d).call at (omega (arith, r, h))
        | inr ge ↦ let same : j ≡ i = omega (arith, le, ge) in subst (λ k. is_earlier at (get_or bs k d) ≡ true) same e
      ]

  module _ (n : ℕ) (point : IsPartitionPoint (λ b. is_earlier at b ≡ true) (λ b. is_earlier at b ≡ false) bs n) where
    -- the body of a call is not before the point
    not_before : (number : ℕ) → IsBodyOf bs at number → n ≤ number
    not_before number x =
        elim (cases_lt number n) [
          | inl less ↦ let e = point.0 number x.body (omega arith) less in
              let h = ltb-true (get_or bs number x.body).call at e in
              let same = ap (λ (b : Body). b.call) (get_so bs number x.body x.body x.is) ∙ x.by_call in
              absurd (omega (arith, h, same))
          | inr ge ↦ ge
        ]

    pub none_behind : length bs ≤ n → HasNoBody bs at
    none_behind over number x =
        let h = in_range bs number x.body x.is in
        let g = not_before number x in
        absurd (omega (arith, h, g, over))

    module _ (b : Body) (there : slice_get bs n ≡ Some b) where
      pub none_but : (b.call ≡ at → ⊥) → HasNoBody bs at
      none_but other number x =
          elim (cases_lt n number) [
            | inl less ↦ let r = rising n number b x.body less there x.is in
                let later = ltb-false (get_or bs n b).call at (point.1 n b (omega arith) (in_range bs n b there)) in
                let same = ap (λ (c : Body). c.call) (get_so bs n b b there) in
                let its = x.by_call in
                absurd (omega (arith, r, later, same, its))
            | inr ge ↦ let g = not_before number x in
                let same : number ≡ n = omega (arith, g, ge) in
                absurd (other (ap (λ (c : Body). c.call) (some_same b x.body (sym there ∙ ap (slice_get bs) (sym same) ∙ x.is)) ∙ x.by_call))
          ]

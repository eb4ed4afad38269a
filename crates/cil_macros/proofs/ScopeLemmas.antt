-- The scope of what a call brings: those of the macros round it, the innermost first, and then that of the call that stands.
use Rattle.std.proofs.Common.{◌≡◌, ◌⊎◌, ◌==◌, ℕ, ◌+◌, ◌<◌, ◌≤◌, false, List, [], ◌∷◌, ◌++◌, length, get_or, map, take, refl, sym, ◌∙◌, ap, subst, inl, inr, arith}
use Rattle.std.specs.Prelude.{Some, slice_get}
use Rattle.std.specs.List.{list_any}
use Rattle.std.proofs.lemmas.List.{take_more}
use Rattle.cil_base.specs.Lists.{contains_none}
use Rattle.cil_base.specs.Places.{some_same}
use Rattle.cil_syntax.specs.Scopes.{Scope, apart, tidy}
use Rattle.cil_blocks.specs.declared.namespaces.Space.{Space}
use Rattle.cil_blocks.specs.Contents.{Standing}
use Rattle.cil_blocks.specs.Namespaces.{AreNamespaces, space_at}
use Rattle.cil_blocks.specs.Numbers.{with_number, with_numbers}
use Rattle.cil_blocks.specs.Places.{AreStandings, Numbered, Standings, entries_in, places_in, spaces_in}
use Rattle.cil_blocks.proofs.NumberLemmas.{all_apart, all_pushed, all_within, closed, closed_within}
use Rattle.cil_blocks.proofs.OnceLemmas.{more_numbers, no_global, scope_again}
use Rattle.cil_macros.specs.declared.entry.Body.{Body}
use Rattle.cil_macros.specs.declared.entry.Called.{Called}
use Rattle.cil_macros.specs.Entries.{IsBodyAt}
use Rattle.cil_macros.specs.Macros.{all_standing}
use Rattle.cil_macros.specs.Placed.{Placed}
use Rattle.cil_macros.specs.Walks.{HasScope, HaveOneScope, IsBodyScope, IsScope, IsScopePlace, placed_in, written_in}
use Rattle.cil_macros.proofs.CallLemmas.{placed_there, stood_at}

-- the numbers of one scope, and behind them those of another one
joined_scope : (ss : List Space) → AreNamespaces ss → (k l : Scope) (ms ns : List ℕ) → IsScope ss k ms → IsScope ss l ns
    → IsScope ss (tidy (k ++ l)) (with_numbers (with_numbers [] ms) ns ++ 0 ∷ [])
joined_scope ss are k l ms ns one other =
    let first = all_within ss ms [] one.within (λ m c. absurd (contains_none m c)) in
    record {
      within = closed_within ss (with_numbers (with_numbers [] ms) ns) (all_within ss ns (with_numbers [] ms) other.within first);
      is = closed ss are (with_numbers (with_numbers [] ms) ns) (k ++ l)
          (all_apart ss are ns (with_numbers [] ms) (map (space_at ss) ms) other.within first (all_pushed ss are ms [] (with_numbers [] ms) refl refl one.within)
          ∙ ap (λ (s : Scope). apart (s ++ map (space_at ss) ns)) one.is ∙ ap (λ (s : Scope). apart (k ++ s)) other.is);
    }

-- the same where there are others in front of both
joined_behind : (cur ms ns : List ℕ) → with_numbers cur (with_numbers (with_numbers [] ms) ns ++ 0 ∷ []) ≡ with_numbers (with_numbers cur ms) ns
joined_behind cur ms ns =
    ap (λ ks. with_numbers cur (ks ++ 0 ∷ [])) (sym (more_numbers [] ms ns)) ∙ scope_again cur (ms ++ ns) ∙ more_numbers cur ms ns

module _ (s : Standings) (cs : List Called) (at : ℕ) where
  -- what is left of the scope of what is placed there: that of another place comes behind what is there
  abbrev IsBehind : ℕ → List ℕ → Type 0
  IsBehind place cur =
      (p q : Placed) (ns : List ℕ) → slice_get (placed_in s cs) at ≡ Some p → slice_get (placed_in s cs) place ≡ Some q → IsScope (spaces_in s) q.standing.scope ns
      → IsScope (spaces_in s) p.standing.scope (with_numbers cur ns ++ 0 ∷ [])

  pub record IsLeft (place : ℕ) (cur : List ℕ) : Type 0 where
    pub within : place < length (entries_in s) + length cs
    pub unclosed : list_any (λ k. 0 == k) cur ≡ false
    pub so : ((place ≡ at) × (cur ≡ [])) ⊎ IsBehind place cur

module _ (s : Standings) (are : AreStandings s) (spaces : AreNamespaces (spaces_in s)) (cs : List Called) where
  -- the numbers of the scope of what stands
  pub standing_scope : (k : ℕ) (m : Standing) → slice_get (all_standing s) k ≡ Some m → (p : Numbered) × (slice_get (places_in s) k ≡ Some p) × IsScope (spaces_in s) m.scope p.1
  standing_scope k m e =
      let x = are.places k m e in
      (x.place, x.is, record { within = x.so.within; is = x.so.is_scope })

  -- what stands in one place has one scope
  one_place : (j k : ℕ) (m n : Standing) → slice_get (all_standing s) j ≡ Some m → slice_get (all_standing s) k ≡ Some n
      → slice_get (places_in s) j ≡ slice_get (places_in s) k → m.scope ≡ n.scope
  one_place j k m n e f same =
      let (p, at, is) = standing_scope j m e in
      let (q, there, also) = standing_scope k n f in
      sym is.is ∙ ap (λ (r : Numbered). map (space_at (spaces_in s)) r.1) (some_same p q (sym at ∙ same ∙ there)) ∙ also.is

  -- and so has what has the scope of such
  pub one_scope : (at other from to : ℕ) → IsScopePlace (placed_in s cs) at from → IsScopePlace (placed_in s cs) other to → from < length (entries_in s) → to < length (entries_in s)
      → slice_get (places_in s) from ≡ slice_get (places_in s) to → HaveOneScope (placed_in s cs) at other
  one_scope at other from to one two h g same p q e f =
      let (r, here) = placed_there s cs from (omega (arith, h)) in
      let (t, there) = placed_there s cs to (omega (arith, g)) in
      let x = stood_at s cs from h r here in
      let y = stood_at s cs to g t there in
      one.same p r e here ∙ ap (λ (z : Placed). z.standing.scope) x.2 ∙ one_place from to x.0 y.0 x.1 y.1 same
      ∙ sym (two.same q t f there ∙ ap (λ (z : Placed). z.standing.scope) y.2)

  module _ (at : ℕ) where
    -- of two places with the same scope the one does as well as the other
    behind_from : (place from : ℕ) (cur : List ℕ) → place < length (entries_in s) + length cs → IsScopePlace (placed_in s cs) place from
        → IsBehind s cs at place cur → IsBehind s cs at from cur
    behind_from place from cur h is_from so p q ns e f is =
        let (r, there) = placed_there s cs place h in
        so p r ns e there (subst (λ (l : Scope). IsScope (spaces_in s) l ns) (sym (is_from.same r q there f)) is)

    pub begun_left : (none : List ℕ) → none ≡ [] → at < length (entries_in s) + length cs → IsLeft s cs at at none
    begun_left none e h = record { within = h; unclosed = ap (list_any (λ k. 0 == k)) e; so = inl (refl, e) }

    -- the scope of the macro of a body
    module _ (place : ℕ) (b : Body) (x : IsBodyAt (written_in s) (all_standing s) cs place b) (cur new : List ℕ)
        (added : (p : Numbered) → slice_get (places_in s) b.macro_rank ≡ Some p → new ≡ with_numbers cur p.1) where
      added_at : (p q : Placed) (ns : List ℕ) → slice_get (placed_in s cs) place ≡ Some p → slice_get (placed_in s cs) b.call ≡ Some q → IsScope (spaces_in s) q.standing.scope ns
          → (ms : List ℕ) × (new ≡ with_numbers cur ms) × IsScope (spaces_in s) p.standing.scope (with_numbers (with_numbers [] ms) ns ++ 0 ∷ [])
      added_at p q ns e f is =
          let (n, at_n, scope) = standing_scope b.macro_rank x.so.opened.macro x.so.is_macro in
          let same = ap (λ (r : Placed). r.standing.scope) (some_same p x.there (sym e ∙ x.placed)) ∙ x.is.scope in
          let call = some_same q x.so.call (sym f ∙ x.so.is_call) in (
            n.1,
            added n at_n,
            subst (λ (l : Scope). IsScope (spaces_in s) l (with_numbers (with_numbers [] n.1) ns ++ 0 ∷ [])) (sym same)
                (joined_scope (spaces_in s) spaces x.so.opened.macro.scope x.so.call.standing.scope n.1 ns scope
                (subst (λ (r : Placed). IsScope (spaces_in s) r.standing.scope ns) call is)),
          )

      behind_by : place < length (entries_in s) + length cs → ((place ≡ at) × (cur ≡ [])) ⊎ IsBehind s cs at place cur → IsBehind s cs at b.call new
      behind_by h (inl (here, none)) = λ p q ns e f is.
          let (ms, e2, scope) = added_at p q ns (ap (slice_get (placed_in s cs)) here ∙ e) f is in
          subst (λ (ks : List ℕ). IsScope (spaces_in s) p.standing.scope (with_numbers ks ns ++ 0 ∷ [])) (sym (e2 ∙ ap (λ ks. with_numbers ks ms) none)) scope
      behind_by h (inr so) = λ p q ns e f is.
          let (r, there) = placed_there s cs place h in
          let (ms, e2, scope) = added_at r q ns there f is in
          subst (λ (ks : List ℕ). IsScope (spaces_in s) p.standing.scope (ks ++ 0 ∷ [])) (joined_behind cur ms ns ∙ ap (λ ks. with_numbers ks ns) (sym e2))
          (so p r (with_numbers (with_numbers [] ms) ns ++ 0 ∷ []) e there scope)

      pub added_left : (from : ℕ) → IsScopePlace (placed_in s cs) b.call from → IsLeft s cs at place cur → IsLeft s cs at from new
      added_left from is_from l =
          let before = x.before in
          let near = is_from.near in
          let h = l.within in
          let (n, at_n, scope) = standing_scope b.macro_rank x.so.opened.macro x.so.is_macro in
          record {
            within = omega (arith, before, near, h);
            unclosed = ap (list_any (λ k. 0 == k)) (added n at_n) ∙ no_global n.1 cur ∙ l.unclosed;
            so = inr (behind_from b.call from new (omega (arith, before, h)) is_from (behind_by h l.so));
          }

    -- at last the scope of the call that stands
    pub left_closed : (place : ℕ) (cur more new : List ℕ) → length (entries_in s) ≤ at → place < length (entries_in s) → IsLeft s cs at place cur
        → ((p : Numbered) → slice_get (places_in s) place ≡ Some p → more ≡ with_numbers cur p.1) → (list_any (λ k. 0 == k) more ≡ false → new ≡ more ++ 0 ∷ [])
        → (p : Placed) → slice_get (placed_in s cs) at ≡ Some p → IsScope (spaces_in s) p.standing.scope new
    left_closed place cur more new behind stands l added close p e =
        let (q, there) = placed_there s cs place l.within in
        let (m, at_m, is) = stood_at s cs place stands q there in
        let (n, at_n, scope) = standing_scope place m at_m in
        let all = added n at_n in
        let so : IsBehind s cs at place cur = elim l.so [ inl first ↦ absurd (let f = first.0 in omega (arith, f, behind, stands)) | inr so ↦ so ] in
        subst (IsScope (spaces_in s) p.standing.scope)
        (ap (λ (ks : List ℕ). ks ++ 0 ∷ []) (sym all) ∙ sym (close (ap (list_any (λ k. 0 == k)) all ∙ no_global n.1 cur ∙ l.unclosed)))
        (so p q n.1 e there (subst (λ (r : Placed). IsScope (spaces_in s) r.standing.scope n.1) (sym is) scope))

-- ---- the place of what has the same scope

module _ (s : Standings) (cs : List Called) where
  pub own_place : (at : ℕ) → IsScopePlace (placed_in s cs) at at
  own_place at = record {
    near = omega arith;
    same = λ p q e f. ap (λ (x : Placed). x.standing.scope) (some_same p q (sym e ∙ f));
  }

  -- what a call brings has the scope that its body names
  pub body_place : (at : ℕ) (b : Body) → IsBodyAt (written_in s) (all_standing s) cs at b → (from : ℕ) → IsBodyScope (all_standing s) (placed_in s cs) b.call b.macro_rank from
      → IsScopePlace (placed_in s cs) at from
  body_place at b x from so = record {
    near = let before = x.before in let near = so.near in omega (arith, before, near);
    same = λ p q e f.
        ap (λ (r : Placed). r.standing.scope) (some_same p x.there (sym e ∙ x.placed))
        ∙ x.is.scope
        ∙ so.same x.so.call q x.so.opened.macro x.so.is_call f x.so.is_macro;
  }

  -- a call has the scope of a place, and the macro adds nothing
  pub nothing_added : (at called from : ℕ) (ks : List ℕ) → HasScope s cs at ks → IsScopePlace (placed_in s cs) at from
      → ((m : Standing) (l : Scope) → slice_get (all_standing s) called ≡ Some m → IsScope (spaces_in s) l ks → tidy (m.scope ++ l) ≡ l)
      → IsBodyScope (all_standing s) (placed_in s cs) at called from
  nothing_added at called from ks has is_from none = record {
    near = is_from.near;
    same = λ p q m e f g. none m p.standing.scope g (has p e) ∙ is_from.same p q e f;
  }

  -- two scopes with the same numbers are one
  pub same_scope : AreStandings s → AreNamespaces (spaces_in s) → (called : ℕ) (own all closed_now ks : List ℕ)
      → ((p : Numbered) → slice_get (places_in s) called ≡ Some p → own ≡ with_numbers [] p.1) → all ≡ with_numbers own ks
      → (list_any (λ k. 0 == k) all ≡ false → closed_now ≡ all ++ 0 ∷ []) → closed_now ≡ ks
      → (m : Standing) (l : Scope) → slice_get (all_standing s) called ≡ Some m → IsScope (spaces_in s) l ks → tidy (m.scope ++ l) ≡ l
  same_scope are spaces called own all closed_now ks added more close same m l e is =
      let (n, at_n, scope) = standing_scope s are spaces cs called m e in
      let its = added n at_n in
      let whole = more ∙ ap (λ xs. with_numbers xs ks) its in
      let none : list_any (λ k. 0 == k) all ≡ false = ap (list_any (λ k. 0 == k)) whole ∙ no_global ks (with_numbers [] n.1) ∙ no_global n.1 [] in
      sym (joined_scope (spaces_in s) spaces m.scope l n.1 ks scope is).is
      ∙ ap (λ xs. map (space_at (spaces_in s)) (xs ++ 0 ∷ [])) (sym whole) ∙ ap (map (space_at (spaces_in s))) (sym (close none) ∙ same) ∙ is.is

-- one number more is put in
pub added_one : (numbers : List ℕ) (k : ℕ) (old cur new : List ℕ) → k < length numbers → cur ≡ with_numbers old (take k numbers)
    → new ≡ with_number cur (get_or numbers k 0) → new ≡ with_numbers old (take (k + 1) numbers)
added_one numbers k old cur new h so e =
    e ∙ ap (λ xs. with_number xs (get_or numbers k 0)) so
    ∙ sym (more_numbers old (take k numbers) (get_or numbers k 0 ∷ []))
    ∙ ap (with_numbers old) (sym (take_more numbers k 0 h))

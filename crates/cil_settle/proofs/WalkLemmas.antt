-- The walk over the nodes that are out.
use Rattle.std.specs.Prelude.{◌⊎◌, take, ◌==◌, ◌&&◌}
use Rattle.std.proofs.Common.{◌≡◌, ℕ, ◌+◌, ◌<◌, ◌≤◌, Bool, true, false, ◌||◌, cond, List, [], ◌∷◌, ◌++◌, length, get_or, refl, sym, ap, subst, ◌∙◌, inl, inr, arith}
use Rattle.std.specs.List.{count_by}
use Rattle.std.proofs.lemmas.List.{length-append, take-append-le, take_all, take_more}
use Rattle.std.proofs.lemmas.List.Sums.{count_by-le-length}
use Rattle.std.proofs.lemmas.Bool.Decides.{nat_tests}
use Rattle.std.proofs.lemmas.Grind.{common_steps}
use Rattle.cil_settle.specs.declared.edge.Edge.{Edge}
use Rattle.cil_base.specs.Among.{among, among_at, among_first, among_push, equal_number}
use Rattle.cil_base.specs.Counts.{count_cons}
use Rattle.cil_settle.specs.Settled.{hits, is_counted, needs, IsSettled, walked}
use Rattle.cil_settle.specs.Sums.{hits_cons, hits_mono, hits_none, walked_at_most, walked_cons, walked_none}
use Rattle.cil_settle.specs.Walk.{IsAt, IsAtNode, IsWalked, into, leaving, no_hits, plus}
use Rattle.cil_settle.proofs.StepLemmas.{same_tally}

-- ---- a node goes out behind others

leaving_cons : (t : Edge → Bool) (v : ℕ) (e : Edge) (es : List Edge) → count_by t (leaving v (e ∷ es)) ≡ cond ((e.from == v) && t e) 1 0 + count_by t (leaving v es)
leaving_cons t v e es =
    (elim (e.from == v) as (λ b. count_by t (cond b (e ∷ leaving v es) (leaving v es)) ≡ cond (b && t e) 1 0 + count_by t (leaving v es)) [
      | true ↦ count_cons t e (leaving v es)
      | false ↦ omega arith
    ])

-- what one edge adds, where it leaves the node that goes out (f) or one of those before (p)
tally : (t p f : Bool) (h k : ℕ) → (f ≡ true → p ≡ false) → cond (t && (p || f)) 1 0 + (h + k) ≡ (cond (t && p) 1 0 + h) + (cond (f && t) 1 0 + k)
tally true true true h k g = absurd (let e = g refl in cc)
tally true true false h k g = omega arith
tally true false true h k g = omega arith
tally true false false h k g = omega arith
tally false true true h k g = omega arith
tally false true false h k g = omega arith
tally false false true h k g = omega arith
tally false false false h k g = omega arith

joined : (a b c x y z : ℕ) → a ≡ x → x ≡ y + z → b ≡ y → c ≡ z → a ≡ b + c
joined a b c x y z p q r s = omega (arith, p, q, r, s)

turned : (a b : ℕ) → (a == b) ≡ (b == a)
turned a b = grind (arith, nat_tests)

-- a node that goes out behind others adds the edges that leave it, those of each sort
sort_push : (t : Edge → Bool) (edges : List Edge) (out : List ℕ) (v : ℕ) → among out v ≡ false
    → count_by (λ e. t e && among (out ++ v ∷ []) e.from) edges ≡ count_by (λ e. t e && among out e.from) edges + count_by t (leaving v edges)
sort_push t [] out v f = refl
sort_push t (e ∷ es) out v f =
    let push : among (out ++ v ∷ []) e.from ≡ (among out e.from || (e.from == v)) = among_push out v e.from ∙ ap (λ b. among out e.from || b) (turned v e.from) in
    let off : (e.from == v) ≡ true → among out e.from ≡ false = λ q. subst (λ k. among out k ≡ false) (sym (equal_number e.from v q)) f in
    joined (count_by (λ x. t x && among (out ++ v ∷ []) x.from) (e ∷ es)) (count_by (λ x. t x && among out x.from) (e ∷ es)) (count_by t (leaving v (e ∷ es)))
    (cond (t e && (among out e.from || (e.from == v))) 1 0 + (count_by (λ x. t x && among out x.from) es + count_by t (leaving v es)))
    (cond (t e && among out e.from) 1 0 + count_by (λ x. t x && among out x.from) es) (cond ((e.from == v) && t e) 1 0 + count_by t (leaving v es))
    (count_cons (λ x. t x && among (out ++ v ∷ []) x.from) e es
    ∙ ap (λ b. cond (t e && b) 1 0 + count_by (λ x. t x && among (out ++ v ∷ []) x.from) es) push
    ∙ ap (λ n. cond (t e && (among out e.from || (e.from == v))) 1 0 + n) (sort_push t es out v f))
    (tally (t e) (among out e.from) (e.from == v) (count_by (λ x. t x && among out x.from) es) (count_by t (leaving v es)) off)
    (count_cons (λ x. t x && among out x.from) e es) (leaving_cons t v e es)

hits_push : (edges : List Edge) (out : List ℕ) (v u : ℕ) → among out v ≡ false → hits edges (out ++ v ∷ []) u ≡ hits edges out u + into u (leaving v edges)
unfolding hits
hits_push edges out v u f = sort_push (λ e. e.to == u) edges out v f

walked_push : (edges : List Edge) (out : List ℕ) (v : ℕ) → among out v ≡ false → walked edges (out ++ v ∷ []) ≡ walked edges out + count_by is_counted (leaving v edges)
unfolding walked
walked_push edges out v f = sort_push is_counted edges out v f

-- ---- nothing is out

no_tally : (t : Bool) → cond {A = ℕ} (t && false) 1 0 ≡ 0
no_tally true = refl
no_tally false = refl

no_hits_at : (edges : List Edge) (u : ℕ) → no_hits u ≡ hits edges [] u
no_hits_at [] u = sym (hits_none [] u)
no_hits_at (e ∷ es) u =
    let again = no_hits_at es u in
    let step = hits_cons e es [] u in
    let none = no_tally (e.to == u) in omega (arith, again, step, none)

pub none_walked : (edges : List Edge) → walked edges [] ≡ 0
none_walked [] = walked_none []
none_walked (e ∷ es) =
    let again = none_walked es in
    let step = walked_cons e es [] in
    let none = no_tally (is_counted e) in omega (arith, again, step, none)

-- ---- the walk

abbrev Bounded : List Edge → List ℕ → List ℕ → ℕ → Type 0
Bounded edges need order i = needs need (get_or order i 0) ≤ hits edges (take i order) (get_or order i 0)

-- one that is among them has lost what it needs
lost : (need h left : ℕ) (out : Bool) → out ≡ true → IsAtNode need h left out → need ≤ h
lost need h left out e (inl a) = a.1
lost need h left out e (inr b) = absurd (let f : true ≡ false = sym e ∙ b.2 in cc)

at_zero : (edges : List Edge) (need order : List ℕ) (i : ℕ) → i < length order
    → IsAtNode (needs need (get_or order i 0)) 0 (get_or need (get_or order i 0) 0) (among order (get_or order i 0)) → Bounded edges need order i
at_zero edges need order i l n = let k = lost _ _ _ _ (among_at order i l) n in omega (arith, k)

pub walk_starts : (edges : List Edge) (need order : List ℕ) → IsAt (needs need) no_hits need order → IsWalked edges need need order 0
walk_starts edges need order at = record {
  at = same_tally (needs need) no_hits (hits edges []) need order (no_hits_at edges) at;
  each = λ i l. at_zero edges need order i l (at.each (get_or order i 0) (at.within i l));
  len = refl;
  done = omega arith;
}

below_or_not : (i n : ℕ) → (i < n) ⊎ (n ≤ i)
below_or_not i n = grind arith

old_bound : (edges : List Edge) (need order next_order more : List ℕ) → next_order ≡ order ++ more
    → (i : ℕ) → i < length order → Bounded edges need order i → Bounded edges need next_order i
old_bound edges need order next_order more e i l b =
    let at : get_or next_order i 0 ≡ get_or order i 0 = ap (λ o. get_or o i 0) e ∙ (grind (arith, common_steps)) in
    let front : take i next_order ≡ take i order = ap (take i) e ∙ take-append-le i order more (omega (arith, l)) in
    subst (λ k. needs need k ≤ hits edges (take i next_order) k) (sym at) (subst (λ o. needs need (get_or order i 0) ≤ hits edges o (get_or order i 0)) (sym front) b)

new_bound : (edges : List Edge) (need left order : List ℕ) (next i : ℕ) → next + 1 ≤ i → i < length order
    → IsAt (needs need) (hits edges (take (next + 1) order)) left order → Bounded edges need order i
new_bound edges need left order next i l b at =
    let k = lost _ _ _ _ (among_at order i b) (at.each (get_or order i 0) (at.within i b)) in
    let m = hits_mono edges (take (next + 1) order) (take i order) (get_or order i 0) (λ v. among_first order (next + 1) i v l) in omega (arith, k, m)

-- what is in front of the next place, where others were put behind
next_front : (order next_order more : List ℕ) (next : ℕ) → next < length order → next_order ≡ order ++ more
    → take (next + 1) next_order ≡ take next order ++ get_or order next 0 ∷ []
next_front order next_order more next l grows =
    ap (take (next + 1)) grows ∙ take-append-le (next + 1) order more (omega (arith, l)) ∙ take_more order next 0 l

pub walk_goes_on : (edges : List Edge) (need left order next_left next_order : List ℕ) (next : ℕ) → next < length order → IsWalked edges need left order next
    → ((more : List ℕ) × (next_order ≡ order ++ more)) → length next_left ≡ length left
    → IsAt (needs need) (plus (hits edges (take next order)) (leaving (get_or order next 0) edges)) next_left next_order
    → IsWalked edges need next_left next_order (next + 1)
walk_goes_on edges need left order next_left next_order next l w grows len at =
    let kept = next_front order next_order grows.0 next l grows.1 in
    let more : (u : ℕ) → plus (hits edges (take next order)) (leaving (get_or order next 0) edges) u ≡ hits edges (take (next + 1) next_order) u =
    λ u. sym (ap (λ o. hits edges o u) kept ∙ hits_push edges (take next order) (get_or order next 0) u (w.at.fresh next l)) in
    let now : IsAt (needs need) (hits edges (take (next + 1) next_order)) next_left next_order = same_tally (needs need) _ _ next_left next_order more at in
    record {
      at = now;
      each = λ i b. elim (below_or_not i (length order)) [
        | inl c ↦ old_bound edges need order next_order grows.0 grows.1 i c (w.each i c)
        | inr c ↦ new_bound edges need next_left next_order next i (omega (arith, c, l)) b now
      ];
      len = len ∙ w.len;
      done = let g : length next_order ≡ length order + length grows.0 = ap length grows.1 ∙ length-append order grows.0 in omega (arith, l, g);
    }

some_left : (need h left : ℕ) (out : Bool) → out ≡ false → IsAtNode need h left out → h < need
some_left need h left out e (inl a) = absurd (let f : true ≡ false = sym a.2 ∙ e in cc)
some_left need h left out e (inr b) = omega (arith, b.0, b.1)

pub walk_ends : (edges : List Edge) (need left order : List ℕ) (next : ℕ) → length order ≤ next → IsWalked edges need left order next → IsSettled edges need order
walk_ends edges need left order next l w =
    let all : IsAt (needs need) (hits edges order) left order = subst (λ o. IsAt (needs need) (hits edges o) left order) (take_all next order l) w.at in
    record {
      within = λ i b. let h = all.within i b in let e = w.len in omega (arith, h, e);
      fresh = all.fresh;
      each = w.each;
      rest = λ u b f. some_left _ _ _ _ f (all.each u (let e = w.len in omega (arith, b, e)));
    }

-- the edges that were walked are those that leave the next node
pub go_on_at : (edges : List Edge) (need order : List ℕ) (next v : ℕ) (row : List Edge) (left out : List ℕ) → v ≡ get_or order next 0 → row ≡ leaving v edges
    → IsAt (needs need) (plus (hits edges (take next order)) row) left out → IsAt (needs need) (plus (hits edges (take next order)) (leaving (get_or order next 0) edges)) left out
go_on_at edges need order next v row left out e f at =
    subst (λ k. IsAt (needs need) (plus (hits edges (take next order)) (leaving k edges)) left out) e
    (subst (λ r. IsAt (needs need) (plus (hits edges (take next order)) r) left out) f at)

-- ---- look-ups

pub more_walked : (edges : List Edge) (need left order next_order more : List ℕ) (next n k : ℕ) (row : List Edge) (v : ℕ) → next < length order → IsWalked edges need left order next
    → next_order ≡ order ++ more → v ≡ get_or order next 0 → row ≡ leaving v edges → n ≡ walked edges (take next order) → k ≡ count_by is_counted row
    → n + k ≡ walked edges (take (next + 1) next_order)
more_walked edges need left order next_order more next n k row v l w grows is row_is e f =
    let all = ap (walked edges) (next_front order next_order more next l grows) in
    let push = walked_push edges (take next order) (get_or order next 0) (w.at.fresh next l) in
    let here : k ≡ count_by is_counted (leaving (get_or order next 0) edges) = f ∙ ap (count_by is_counted) (row_is ∙ ap (λ z. leaving z edges) is) in
    omega (arith, push, here, all, e)

-- look-ups are no more than there are edges
pub room_for : (edges : List Edge) (n : ℕ) (out : List ℕ) → n ≡ walked edges out → n ≤ length edges
room_for edges n out e =
    let most = walked_at_most edges out in
    let all = count_by-le-length is_counted edges in omega (arith, e, most, all)

-- Places, each chosen by a number among those that are kept, each of which is reached from one before it.
use Rattle.std.proofs.Common.{◌≡◌, ◌==◌, false, ℕ, zero, suc, ◌+◌, ◌<◌, ◌≤◌, List, [], ◌∷◌, ◌++◌, length, get_or, refl, sym, ◌∙◌, ap, subst, inl, inr, arith, append_assoc, append-nil}
use Rattle.std.specs.Prelude.{Contains, None, Some, flat_map, reverse, slice_get}
use Rattle.std.specs.Global.{Vec}
use Rattle.std.specs.Vec.{vec_len}
use Rattle.std.specs.List.{list_any}
use Rattle.std.specs.Option.{option_map}
use Rattle.std.proofs.Math.Seq.{get_or-append_seam}
use Rattle.std.proofs.lemmas.List.{get_or_append_left, length-append, map-append, reverse-append}
use Rattle.std.proofs.lemmas.List.Elements.{Contains-append_cases}
use Rattle.std.proofs.lemmas.Option.{slice_get-map}
use Rattle.cil_base.specs.Lists.{contains_here, contains_later}
use Rattle.cil_base.specs.Places.{get_behind, in_range, none_some, some_same}
use Rattle.cil_blocks.specs.declared.places.Place.{Place}
use Rattle.cil_blocks.specs.declared.namespaces.Space.{Space}
use Rattle.cil_blocks.specs.Numbers.{chain_numbers, with_number, with_numbers}
use Rattle.cil_blocks.specs.Places.{Numbered, Reached, all_numbered, numbered, numbers_of, reached_at, reached_by, reached_from, reached_of, reached_through, reached_top}
use Rattle.cil_blocks.specs.Placing.{AreBehind, AreChosen, numbers_left}
use Rattle.cil_blocks.proofs.Kept.{in_one}
use Rattle.cil_blocks.proofs.NamespaceKeys.{at_or_last}
use Rattle.cil_blocks.proofs.OnceLemmas.{more_numbers, no_global, scope_again}

-- ---- the places that are kept

abbrev next : List Reached → Place → Reached
next done p = reached_by (get_or done p.outer reached_top) p

longer : (done : List Reached) (r : Reached) → length (done ++ r ∷ []) ≡ suc (length done)
longer done r = length-append done (r ∷ []) ∙ (let e : length done + 1 ≡ suc (length done) = omega arith in e)

-- what stands in front stays
front : (ps : List Place) (done : List Reached) (k : ℕ) → k < length done → get_or (reached_from done ps) k reached_top ≡ get_or done k reached_top
unfolding reached_from
front [] done k h = refl
front (p ∷ ps) done k h =
    front ps (done ++ next done p ∷ []) k (let e = longer done (next done p) in omega (arith, e, h))
    ∙ get_or_append_left done (next done p ∷ []) reached_top k h

step : (ps : List Place) (done : List Reached) (i m : ℕ) (p : Place) → slice_get ps i ≡ Some p → m ≡ length done + i → p.outer < m
    → get_or (reached_from done ps) m reached_top ≡ reached_by (get_or (reached_from done ps) p.outer reached_top) p
unfolding reached_from
step [] done i m p at e h = absurd (let w = in_range [] i p at in omega (arith, w))
step (q ∷ ps) done zero m p at e h =
    let same : q ≡ p = some_same q p at in
    let x = next done q in
    ap (λ k. get_or (reached_from (done ++ x ∷ []) ps) k reached_top) (let f : m ≡ length done = omega (arith, e) in f)
    ∙ front ps (done ++ x ∷ []) (length done) (let f = longer done x in omega (arith, f))
    ∙ get_or-append_seam done x [] reached_top
    ∙ ap (next done) same
    ∙ ap (λ r. reached_by r p) (sym (front (q ∷ ps) done p.outer (omega (arith, e, h))))
step (q ∷ ps) done (suc i) m p at e h =
    let x = next done q in
    let l = longer done x in
    step ps (done ++ x ∷ []) i m p at (omega (arith, e, l)) h

joined : (ps more : List Place) (done : List Reached) → reached_from done (ps ++ more) ≡ reached_from (reached_from done ps) more
unfolding reached_from
joined [] more done = refl
joined (p ∷ ps) more done = joined ps more (done ++ next done p ∷ [])

as_many : (ps : List Place) (done : List Reached) → length (reached_from done ps) ≡ length done + length ps
unfolding reached_from
as_many [] done = omega arith
as_many (p ∷ ps) done =
    let rest = as_many ps (done ++ next done p ∷ []) in
    let l = longer done (next done p) in
    omega (arith, rest, l)

-- a number keeps its place when more are kept
pub reached_stays : (kept more : List Place) (k : ℕ) → k ≤ length kept → reached_at (kept ++ more) k ≡ reached_at kept k
unfolding reached_at
reached_stays kept more k h =
    ap (λ rs. get_or rs k reached_top) (joined kept more (reached_top ∷ []))
    ∙ front more (reached_from (reached_top ∷ []) kept) k (let l = as_many kept (reached_top ∷ []) in omega (arith, l, h))

pub top_at : (kept : List Place) → reached_at kept 0 ≡ reached_top
unfolding reached_at
top_at kept = front kept (reached_top ∷ []) 0 (omega arith)

pub top_of : (kept : List Place) (k : ℕ) → k ≤ 0 → reached_at kept k ≡ reached_top
top_of kept zero h = top_at kept
top_of kept (suc k) h = absurd (omega (arith, h))

-- the place of the next number
pub place_next : (kept : List Place) (i k : ℕ) (p : Place) → AreBehind kept → slice_get kept i ≡ Some p → k ≡ suc i → (reached_at kept k ≡ reached_by (reached_at kept p.outer) p) × (p.outer < k)
unfolding reached_at
place_next kept i k p behind at e =
    let b = behind i p at in (
      step kept (reached_top ∷ []) i k p at (omega (arith, e)) (omega (arith, b, e)),
      omega (arith, b, e),
    )

past : (xs : List Reached) (k : ℕ) → length xs ≤ k → get_or xs k reached_top ≡ reached_top
past [] k h = refl
past (x ∷ xs) zero h = absurd (omega (arith, h))
past (x ∷ xs) (suc k) h = past xs k (omega (arith, h))

-- what has no number
pub place_past : (kept : List Place) (k : ℕ) → length kept < k → reached_at kept k ≡ reached_top
unfolding reached_at
place_past kept k h = past (reached_from (reached_top ∷ []) kept) k (let l = as_many kept (reached_top ∷ []) in omega (arith, l, h))

-- ---- those that are chosen

pub chosen : (kept : List Place) (which : List ℕ) (rank k : ℕ) → slice_get which rank ≡ Some k → slice_get (reached_of kept which) rank ≡ Some (reached_at kept k)
chosen kept which rank k e = slice_get-map (reached_at kept) which rank ∙ ap (option_map (reached_at kept)) e

pub chosen_is : (kept : List Place) (which : List ℕ) (rank k : ℕ) (r : Reached) → slice_get which rank ≡ Some k → slice_get (reached_of kept which) rank ≡ Some r
    → reached_at kept k ≡ r
chosen_is kept which rank k r e f = some_same (reached_at kept k) r (sym (chosen kept which rank k e) ∙ f)

pub none_chosen : (kept : List Place) (which : List ℕ) (rank : ℕ) (r : Reached) → slice_get which rank ≡ None → slice_get (reached_of kept which) rank ≡ Some r → ⊥
none_chosen kept which rank r e f =
    none_some r (sym (slice_get-map (reached_at kept) which rank ∙ ap (option_map (reached_at kept)) e) ∙ f)

pub none_there : (kept : List Place) (which : List ℕ) (rank : ℕ) → slice_get which rank ≡ None → slice_get (reached_of kept which) rank ≡ None
none_there kept which rank e = slice_get-map (reached_at kept) which rank ∙ ap (option_map (reached_at kept)) e

-- ---- one more is chosen

pub chosen_more : (kept : List Place) (which new : List ℕ) (k : ℕ) → AreChosen kept which → k ≤ length kept → new ≡ which ++ k ∷ [] → AreChosen kept new
chosen_more kept which new k so h e = record {
  upto = λ m c. elim (Contains-append_cases which (k ∷ []) m (subst (λ ks. Contains ks m) e c)) [
    | inl d ↦ so.upto m d
    | inr d ↦ let same = in_one m k d in omega (arith, same, h)
  ];
  behind = so.behind;
}

pub places_more : (kept : List Place) (which new : List ℕ) (k : ℕ) → new ≡ which ++ k ∷ [] → reached_of kept new ≡ reached_of kept which ++ reached_at kept k ∷ []
places_more kept which new k e = ap (reached_of kept) e ∙ map-append (reached_at kept) which (k ∷ [])

pub global_more : (kept : List Place) (which new : List ℕ) → new ≡ which ++ 0 ∷ [] → reached_of kept new ≡ reached_of kept which ++ reached_top ∷ []
global_more kept which new e = places_more kept which new 0 e ∙ ap (λ r. reached_of kept which ++ r ∷ []) (top_at kept)

pub again_more : (kept : List Place) (which new : List ℕ) (rank k : ℕ) (r : Reached) → slice_get which rank ≡ Some k → new ≡ which ++ k ∷ []
    → slice_get (reached_of kept which) rank ≡ Some r → reached_of kept new ≡ reached_of kept which ++ r ∷ []
again_more kept which new rank k r at e f =
    places_more kept which new k e ∙ ap (λ x. reached_of kept which ++ x ∷ []) (chosen_is kept which rank k r at f)

-- ---- one more is kept

pub kept_more : (kept new : List Place) (p : Place) (which : List ℕ) → AreChosen kept which → new ≡ kept ++ p ∷ [] → p.outer ≤ length kept → AreChosen new which
kept_more kept new p which so e h =
    subst (λ ks. AreChosen ks which) (sym e)
    (record {
      upto = λ k c. let b = so.upto k c in let l = length-append kept (p ∷ []) in omega (arith, b, l);
      behind = λ i q at. elim (at_or_last kept p i q at) [
        | inl there ↦ so.behind i q there
        | inr (last, same) ↦ let f : p.outer ≡ q.outer = ap (λ (x : Place). x.outer) same in omega (arith, last, f, h)
      ];
    })

all_same : (kept : List Place) (p : Place) (which : List ℕ) → ((k : ℕ) → Contains which k → k ≤ length kept)
    → reached_of (kept ++ p ∷ []) which ≡ reached_of kept which
all_same kept p [] h = refl
all_same kept p (k ∷ ks) h =
    ap (λ x. x ∷ reached_of (kept ++ p ∷ []) ks) (reached_stays kept (p ∷ []) k (h k (contains_here k ks)))
    ∙ ap (λ xs. reached_at kept k ∷ xs) (all_same kept p ks (λ m c. h m (contains_later m k ks c)))

-- a vector that has one place more
pub one_longer : (kept : List Place) (new : Vec Place) (p : Place) (k : ℕ) → new.items ≡ kept ++ p ∷ [] → k ≡ vec_len new → k ≡ length kept + 1
one_longer kept new p k e f =
    let n = new.ok in
    let l = ap length e ∙ length-append kept (p ∷ []) in
    omega (arith, f, n, l)

-- what is reached from the place of a rank is chosen
pub last_more : (kept more : List Place) (p : Place) (which new : List ℕ) (k : ℕ) → AreChosen kept which → more ≡ kept ++ p ∷ [] → k ≡ length kept + 1 → new ≡ which ++ k ∷ []
    → p.outer ≤ length kept → AreChosen more new
last_more kept more p which new k so is last e outer =
    chosen_more more which new k (kept_more kept more p which so is outer)
    (let l = ap length is ∙ length-append kept (p ∷ []) in omega (arith, last, l)) e

pub place_more : (kept more : List Place) (p : Place) (which new : List ℕ) (rank k : ℕ) (r : Reached) → AreChosen kept which → more ≡ kept ++ p ∷ [] → k ≡ length kept + 1
    → new ≡ which ++ k ∷ [] → p.outer ≤ length kept → slice_get which rank ≡ Some p.outer → slice_get (reached_of kept which) rank ≡ Some r
    → reached_of more new ≡ reached_of kept which ++ reached_by r p ∷ []
place_more kept more p which new rank k r so is last e outer at f =
    let behind = (kept_more kept more p which so is outer).behind in
    let here : slice_get more (length kept) ≡ Some p = ap (λ ps. slice_get ps (length kept)) is ∙ get_behind kept (p ∷ []) 0 (length kept) (omega arith) in
    let now : reached_at more k ≡ reached_by r p =
    (place_next more (length kept) k p behind here (let n : k ≡ suc (length kept) = omega (arith, last) in n)).0
    ∙ ap (λ ps. reached_by (reached_at ps p.outer) p) is
    ∙ ap (λ x. reached_by x p) (reached_stays kept (p ∷ []) p.outer outer ∙ chosen_is kept which rank p.outer r at f) in
    places_more more which new k e
    ∙ ap (λ xs. xs ++ reached_at more k ∷ []) (ap (λ ps. reached_of ps which) is ∙ all_same kept p which so.upto)
    ∙ ap (λ x. reached_of kept which ++ x ∷ []) now

-- ---- the numbers of a scope

-- a block, or the namespace round an inherited block, is left after the step from a place
pub block_left : (ss : List Space) (r : Reached) (space : ℕ) (cur new left : List ℕ) → new ≡ with_number cur space
    → with_numbers new (numbers_left ss r left) ≡ with_numbers cur (numbers_left ss (reached_through r space None) left)
block_left ss r space cur new left e = ap (λ ks. with_numbers ks (numbers_left ss r left)) e

pub inherited_left : (ss : List Space) (r : Reached) (space written : ℕ) (cur left new : List ℕ) → new ≡ left ++ written ∷ []
    → with_numbers cur (numbers_left ss r new) ≡ with_numbers cur (numbers_left ss (reached_through r space (Some written)) left)
inherited_left ss r space written cur left new e =
    ap (λ ks. with_numbers cur (r.1 ++ flat_map (chain_numbers ss) (r.2 ++ ks))) (ap reverse e ∙ reverse-append left (written ∷ []))
    ∙ ap (λ ks. with_numbers cur (r.1 ++ flat_map (chain_numbers ss) ks)) (sym (append_assoc r.2 (written ∷ []) (reverse left)))

-- the last of those that are left comes first
pub chain_left : (ss : List Space) (left rest : List ℕ) (written : ℕ) (cur new : List ℕ) → left ≡ rest ++ written ∷ [] → new ≡ with_numbers cur (chain_numbers ss written)
    → with_numbers new (numbers_left ss reached_top rest) ≡ with_numbers cur (numbers_left ss reached_top left)
chain_left ss left rest written cur new e f =
    ap (λ ks. with_numbers ks (numbers_left ss reached_top rest)) f
    ∙ sym (more_numbers cur (chain_numbers ss written) (numbers_left ss reached_top rest))
    ∙ ap (λ ks. with_numbers cur (flat_map (chain_numbers ss) ks)) (sym (ap reverse e ∙ reverse-append rest (written ∷ [])))

pub none_left : (ss : List Space) (r : Reached) → numbers_left ss r [] ≡ numbers_of ss r
none_left ss r = ap (λ ks. r.1 ++ flat_map (chain_numbers ss) ks) (append-nil r.2)

-- ---- the scope of a rank, as it is handed up

-- what has numbers has a place
reached_there : (ss : List Space) (rs : List Reached) (rank : ℕ) (p : Numbered) → slice_get (all_numbered ss rs) rank ≡ Some p
    → (r : Reached) × (slice_get rs rank ≡ Some r) × (numbered ss r ≡ p)
reached_there ss [] rank p e = absurd (none_some p e)
reached_there ss (r ∷ rs) zero p e = (r, refl, some_same (numbered ss r) p e)
reached_there ss (r ∷ rs) (suc rank) p e = reached_there ss rs rank p e

pub scope_added : (ss : List Space) (rs : List Reached) (rank : ℕ) (p : Numbered) (old new : List ℕ)
    → ((r : Reached) → slice_get rs rank ≡ Some r → new ≡ with_numbers old (numbers_of ss r)) → slice_get (all_numbered ss rs) rank ≡ Some p → new ≡ with_numbers old p.1
scope_added ss rs rank p old new so e =
    let (r, at, is) = reached_there ss rs rank p e in
    so r at ∙ sym (scope_again old (numbers_of ss r)) ∙ ap (λ (q : Numbered). with_numbers old q.1) is

pub scope_filled : (ss : List Space) (rs : List Reached) (rank : ℕ) (p : Numbered) (none now new : List ℕ) → none ≡ []
    → ((r : Reached) → slice_get rs rank ≡ Some r → now ≡ with_numbers none (numbers_of ss r)) → (list_any (λ k. 0 == k) now ≡ false → new ≡ now ++ 0 ∷ [])
    → slice_get (all_numbered ss rs) rank ≡ Some p → new ≡ p.1
scope_filled ss rs rank p none now new start so close e =
    let (r, at, is) = reached_there ss rs rank p e in
    let all : now ≡ with_numbers [] (numbers_of ss r) = so r at ∙ ap (λ ks. with_numbers ks (numbers_of ss r)) start in
    close (ap (list_any (λ k. 0 == k)) all ∙ no_global (numbers_of ss r) [])
    ∙ ap (λ ks. ks ++ 0 ∷ []) all ∙ ap (λ (q : Numbered). q.1) is

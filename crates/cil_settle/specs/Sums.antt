-- What edges say together: those of several passes, in any order, and where more nodes are out.
use Rattle.std.specs.Prelude.{◌≡◌, ℕ, ◌+◌, ◌<◌, ◌≤◌, Bool, true, false, ◌&&◌, ◌==◌, List, [], ◌∷◌, ◌++◌, Contains, length, take, IsPermutation}
use Rattle.std.specs.List.{count_by, sum_by, flat_map}
use Rattle.std.proofs.Common.{get_or, cond, refl, ap, arith}
use Rattle.std.proofs.lemmas.List.Sorted.{sum_by-IsPermutation}
use Rattle.cil_settle.specs.declared.edge.Edge.{Edge}
use Rattle.cil_base.specs.Among.{among}
use Rattle.cil_base.specs.Counts.{all_pass, at_most, count_append, count_cons, count_flat, count_mono, count_same}
use Rattle.cil_settle.specs.Settled.{hits, is_counted, needs, IsSettled, walked}

-- ---- how many supports a node has lost

pub hits_none : (out : List ℕ) (u : ℕ) → hits [] out u ≡ 0
unfolding hits
hits_none out u = refl

pub hits_one : (e : Edge) (out : List ℕ) (u : ℕ) → hits (e ∷ []) out u ≡ cond ((e.to == u) && among out e.from) 1 0
unfolding hits
hits_one e out u = let s = count_cons (λ (x : Edge). (x.to == u) && among out x.from) e [] in omega (arith, s)

pub hits_cons : (e : Edge) (es : List Edge) (out : List ℕ) (u : ℕ) → hits (e ∷ es) out u ≡ cond ((e.to == u) && among out e.from) 1 0 + hits es out u
unfolding hits
hits_cons e es out u = count_cons (λ x. (x.to == u) && among out x.from) e es

pub hits_append : (es fs : List Edge) (out : List ℕ) (u : ℕ) → hits (es ++ fs) out u ≡ hits es out u + hits fs out u
unfolding hits
hits_append es fs out u = count_append (λ e. (e.to == u) && among out e.from) es fs

-- sorting the edges changes nothing of what they say
pub hits_sorted : (es fs : List Edge) (out : List ℕ) (u : ℕ) → IsPermutation es fs → hits fs out u ≡ hits es out u
unfolding hits
hits_sorted es fs out u p = sum_by-IsPermutation (λ e. cond ((e.to == u) && among out e.from) 1 0) es fs p

-- a pass says the sum of what it says of each statement
pub hits_all : {X : Type 0} (made : X → List Edge) (count : X → ℕ) (out : List ℕ) (u : ℕ) (xs : List X)
    → ((x : X) → Contains xs x → hits (made x) out u ≡ count x) → hits (flat_map made xs) out u ≡ sum_by count xs
unfolding hits
hits_all made count out u xs each = count_flat (λ e. (e.to == u) && among out e.from) made count xs each

both : (t a b : Bool) → (a ≡ true → b ≡ true) → (t && a) ≡ true → (t && b) ≡ true
both true a b f h = f h
both false a b f h = h

-- where more nodes are out, no node has lost less
pub hits_mono : (edges : List Edge) (a b : List ℕ) (u : ℕ) → ((v : ℕ) → among a v ≡ true → among b v ≡ true) → hits edges a u ≤ hits edges b u
unfolding hits
hits_mono edges a b u f =
    count_mono (λ e. (e.to == u) && among a e.from) (λ e. (e.to == u) && among b e.from) edges (λ e. both (e.to == u) (among a e.from) (among b e.from) (f e.from))

-- where a node can lose all its supports, each node that supports it goes out before it
pub leads_from_before : (edges : List Edge) (need order : List ℕ) → IsSettled edges need order → (i : ℕ) → i < length order
    → needs need (get_or order i 0) ≡ count_by (λ e. e.to == get_or order i 0) edges
    → (e : Edge) → Contains edges e → (e.to == get_or order i 0) ≡ true → among (take i order) e.from ≡ true
unfolding hits
leads_from_before edges need order settled i l all e c t =
    let bound = settled.each i l in
    all_pass (λ x. x.to == get_or order i 0) (λ x. among (take i order) x.from) edges (omega (arith, bound, all)) e c t

-- what settles over sorted edges settles over the edges as they were made
pub settled_sorted : (es fs : List Edge) (need order : List ℕ) → IsPermutation es fs → IsSettled fs need order → IsSettled es need order
settled_sorted es fs need order p settled = record {
  within = settled.within;
  fresh = settled.fresh;
  each = λ i l. let each = settled.each i l in let same = hits_sorted es fs (take i order) (get_or order i 0) p in omega (arith, each, same);
  rest = λ u l out. let rest = settled.rest u l out in let same = hits_sorted es fs order u p in omega (arith, rest, same);
}

-- ---- look-ups

pub walked_none : (out : List ℕ) → walked [] out ≡ 0
unfolding walked
walked_none out = refl

pub walked_one : (e : Edge) (out : List ℕ) → walked (e ∷ []) out ≡ cond (is_counted e && among out e.from) 1 0
unfolding walked
walked_one e out = let s = count_cons (λ (x : Edge). is_counted x && among out x.from) e [] in omega (arith, s)

pub walked_cons : (e : Edge) (es : List Edge) (out : List ℕ) → walked (e ∷ es) out ≡ cond (is_counted e && among out e.from) 1 0 + walked es out
unfolding walked
walked_cons e es out = count_cons (λ x. is_counted x && among out x.from) e es

pub walked_append : (es fs : List Edge) (out : List ℕ) → walked (es ++ fs) out ≡ walked es out + walked fs out
unfolding walked
walked_append es fs out = count_append (λ e. is_counted e && among out e.from) es fs

pub walked_sorted : (es fs : List Edge) (out : List ℕ) → IsPermutation es fs → walked fs out ≡ walked es out
unfolding walked
walked_sorted es fs out p = sum_by-IsPermutation (λ e. cond (is_counted e && among out e.from) 1 0) es fs p

pub walked_all : {X : Type 0} (made : X → List Edge) (count : X → ℕ) (out : List ℕ) (xs : List X)
    → ((x : X) → Contains xs x → walked (made x) out ≡ count x) → walked (flat_map made xs) out ≡ sum_by count xs
unfolding walked
walked_all made count out xs each = count_flat (λ e. is_counted e && among out e.from) made count xs each

-- which nodes are out decides, and not in what order
pub walked_same : (edges : List Edge) (a b : List ℕ) → ((v : ℕ) → among a v ≡ among b v) → walked edges a ≡ walked edges b
unfolding walked
walked_same edges a b f =
    count_same (λ e. is_counted e && among a e.from) (λ e. is_counted e && among b e.from) edges (λ e. ap (λ t. is_counted e && t) (f e.from))

pub walked_at_most : (edges : List Edge) (out : List ℕ) → walked edges out ≤ count_by is_counted edges
unfolding walked
walked_at_most edges out = at_most is_counted (λ e. among out e.from) edges

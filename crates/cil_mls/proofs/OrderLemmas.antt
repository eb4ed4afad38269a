-- What settles is an order of the numbers below the count, or there is none.
use Rattle.std.specs.Prelude.{◌≡◌, ℕ, zero, suc, ◌+◌, ◌<◌, ◌≤◌, Bool, true, false, ◌&&◌, ◌==◌, List, [], ◌∷◌, Some, length, take, cond, slice_get, Contains, All}
use Rattle.std.specs.List.{count_by}
use Rattle.std.proofs.Common.{get_or, refl, sym, ◌∙◌, ap, subst, inl, inr, arith}
use Rattle.std.proofs.lemmas.Bool.{cases_Bool}
use Rattle.std.proofs.lemmas.List.{length-take-le, get_or-take}
use Rattle.std.proofs.lemmas.List.Elements.{All-get_or}
use Rattle.cil_base.specs.Lists.{contains_here, contains_later}
use Rattle.cil_base.specs.Places.{in_range, get_contains, get_at, get_so, is_there}
use Rattle.cil_settle.specs.declared.edge.Edge.{Edge}
use Rattle.cil_base.specs.Among.{among, among_at, equal_number, place_of}
use Rattle.cil_base.specs.Counts.{count_cons}
use Rattle.cil_settle.specs.Settled.{IsSettled, hits, needs}
use Rattle.cil_settle.specs.Sums.{leads_from_before}
use Rattle.cil_mls.specs.Orders.{IsOrder, IsChain}
use Rattle.cil_settle.specs.Cycles.{IsWithin, Leads}
use Rattle.cil_mls.specs.Edges.{IsBelow, IsFixed, IsNotFixed}
use Rattle.cil_mls.specs.OrderSteps.{AreNeighbours, HasAll, IsCounted}
use Rattle.cil_mls.proofs.ChainLemmas.{chain_is_one, not_the_only}
use Rattle.cil_mls.proofs.EdgeLemmas.{leads_or_not, order_of_two, same_number}

-- where each that passes the first test passes the second, as many pass both
both_pass : (p q : Edge → Bool) (xs : List Edge) → ((x : Edge) → Contains xs x → p x ≡ true → q x ≡ true) → count_by p xs ≤ count_by (λ x. p x && q x) xs
both_pass p q [] f = omega arith
both_pass p q (x ∷ xs) f =
    step (p x) (q x) _ _ _ _ (count_cons p x xs) (count_cons (λ y. p y && q y) x xs) (f x (contains_here x xs)) (both_pass p q xs (λ y c. f y (contains_later y x xs c))) where
      step : (a b : Bool) (s t h k : ℕ) → s ≡ cond a 1 0 + h → t ≡ cond (a && b) 1 0 + k → (a ≡ true → b ≡ true) → h ≤ k → s ≤ t
      step true true s t h k e g f l = omega (arith, e, g, l)
      step true false s t h k e g f l = absurd (let c : false ≡ true = f refl in cc)
      step false b s t h k e g f l = omega (arith, e, g, l)

module _ (edges : List Edge) (need order : List ℕ) (count : ℕ) (settled : IsSettled edges need order) (counted : IsCounted edges count need) where
  order_once : (i j x : ℕ) → i < j → slice_get order i ≡ Some x → slice_get order j ≡ Some x → ⊥
  order_once i j x l a b =
      let jl = in_range order j x b in
      let fresh : among (take j order) (get_or order j 0) ≡ false = settled.fresh j jl in
      let len : length (take j order) ≡ j = length-take-le j order (omega (arith, jl)) in
      let is : among (take j order) (get_or (take j order) i 0) ≡ true = among_at (take j order) i (omega (arith, l, len)) in
      let same : get_or (take j order) i 0 ≡ get_or order j 0 = get_or-take j order i 0 l ∙ get_so order i x 0 a ∙ sym (get_so order j x 0 b) in
      let two : among (take j order) (get_or order j 0) ≡ true = subst (λ k. among (take j order) k ≡ true) same is in cc

  order_is : HasAll count order → IsOrder (IsBelow count) (Leads edges) order
  order_is all = record {
    items = λ u. (
      λ c. let p = get_at order u c in let w = settled.within p.0 p.1 in let s = get_so order p.0 u 0 p.2 in let n = counted.len in omega (arith, w, s, n),
      λ l. let p = place_of order u (all u l) in get_contains order p.0 u (is_there order p.0 0 p.1 ∙ ap Some p.2),
    );
    once = λ i j x a b. elim (order_of_two i j) [
      | inl l ↦ absurd (order_once i j x l a b)
      | inr r ↦ elim r [ inl e ↦ e | inr l ↦ absurd (order_once j i x l b a) ]
    ];
    upwards = λ i j x y b p q.
        let jl = in_range order j y q in
        let here = get_so order j y 0 q in
        let low : y < count = (let w = settled.within j jl in let n = counted.len in omega (arith, w, n, here)) in
        let full : needs need (get_or order j 0) ≡ count_by (λ e. e.to == get_or order j 0) edges =
        subst (λ k. needs need k ≡ count_by (λ e. e.to == k) edges) (sym here) (counted.each y low) in
        let before = leads_from_before edges need order settled j jl full b.edge b.is_edge (same_number b.edge.to (get_or order j 0) (b.to_b ∙ sym here)) in
        let k = place_of (take j order) b.edge.from before in
        let kl : k.0 < j = (let m = k.1 in let len = length-take-le j order (omega (arith, jl)) in omega (arith, m, len)) in
        let kx : slice_get order k.0 ≡ Some x = is_there order k.0 0 (omega (arith, kl, jl)) ∙ ap Some (sym (get_or-take j order k.0 0 kl) ∙ k.2 ∙ b.from_a) in
        elim (order_of_two i k.0) [
          | inl l ↦ omega (arith, l, kl)
          | inr r ↦ elim r [ inl e ↦ omega (arith, e, kl) | inr l ↦ absurd (order_once k.0 i x l kx p) ]
        ];
  }

  -- what stands in an order settles, from the front on
  module _ (within : All (IsWithin count) edges) (row : List ℕ) (o : IsOrder (IsBelow count) (Leads edges) row) where
    settles : (n i u : ℕ) → i < n → slice_get row i ≡ Some u → among order u ≡ true
    unfolding hits
    settles zero i u l p = absurd (omega (arith, l))
    settles (suc n) i u l p = elim (cases_Bool (among order u)) [
      | inl is ↦ is
      | inr is_not ↦
          let low : u < count = (o.items u).0 (get_contains row i u p) in
          let len = counted.len in
          let rest = settled.rest u (omega (arith, low, len)) is_not in
          let each = counted.each u low in
          let all = both_pass (λ e. e.to == u) (λ e. among order e.from) edges (λ e c t.
          let begin : e.from < count = (let k = get_at edges e c in subst (λ (x : Edge). x.from < count) (get_so edges k.0 e e k.2) (All-get_or (IsWithin count) edges k.0 e k.1 within).from_node) in
          let k = get_at row e.from ((o.items e.from).1 begin) in
          let up : k.0 < i = o.upwards k.0 i e.from u (record { edge = e; is_edge = c; from_a = refl; to_b = equal_number e.to u t }) k.2 p in
          settles n k.0 e.from (omega (arith, up, l)) k.2) in
          absurd (omega (arith, rest, each, all))
    ]

    has_all : HasAll count order
    has_all u l = let k = get_at row u ((o.items u).1 l) in settles (suc k.0) k.0 u (omega arith) k.2

  pub no_order : All (IsWithin count) edges → (HasAll count order → ⊥) → IsNotFixed count edges
  no_order within f row fixed = f (has_all within row fixed.is_order)

  chain_of : AreNeighbours edges order → IsChain (IsBelow count) (Leads edges) order
  chain_of joined i x y a b =
      let l = in_range order (suc i) y b in
      subst (λ k. Leads edges k y) (get_so order i x 0 a) (subst (λ k. Leads edges (get_or order i 0) k) (get_so order (suc i) y 0 b) (joined i l))

  pub fixed_by : HasAll count order → AreNeighbours edges order → IsFixed count edges order
  fixed_by all joined = chain_is_one (IsBelow count) (Leads edges) order (order_is all) (chain_of joined)

  pub not_fixed : HasAll count order → (AreNeighbours edges order → ⊥) → IsNotFixed count edges
  not_fixed all f row fixed = f (λ i l. elim (leads_or_not edges (get_or order i 0) (get_or order (suc i) 0)) [
    | inl leads ↦ leads
    | inr none ↦ absurd (not_the_only (IsBelow count) (Leads edges) order i (get_or order i 0) (get_or order (suc i) 0) (order_is all)
        (is_there order i 0 (omega (arith, l))) (is_there order (suc i) 0 l) none row fixed)
  ])

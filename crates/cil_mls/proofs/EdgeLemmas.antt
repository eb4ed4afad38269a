-- Edges: which numbers they join, how many lead to each, and that their order says nothing.
use Rattle.std.specs.Prelude.{Option, None, IfOk, MatchOption, ◌≡◌, ◌⊎◌, ℕ, suc, ◌+◌, ◌-◌, ◌<◌, ◌≤◌, Bool, true, false, ◌==◌, List, [], ◌∷◌, ◌++◌, Some, length, set, cond, Contains, IsPermutation}
use Rattle.std.specs.List.{count_by}
use Rattle.std.proofs.Common.{Result, Ok, Err, get_or, sym, ◌∙◌, ap, subst, inl, inr, arith}
use Rattle.std.proofs.lemmas.Bool.{cases_Bool}
use Rattle.std.proofs.lemmas.Bool.Decides.{nat_tests}
use Rattle.std.proofs.lemmas.List.{get_or-set_same, get_or-set_other, length-set}
use Rattle.std.proofs.lemmas.List.Sorted.{Contains-permutation, IsPermutation-sym}
use Rattle.std.proofs.lemmas.List.Sums.{count_by-le-length}
use Rattle.cil_base.specs.Lists.{contains_here, contains_later, contains_cases, contains_none}
use Rattle.cil_settle.specs.declared.edge.Edge.{Edge}
use Rattle.cil_base.specs.Among.{equal_number}
use Rattle.cil_base.specs.Counts.{count_cons, count_append}
use Rattle.cil_settle.specs.Walk.{leaving}
use Rattle.cil_mls.specs.Orders.{IsOrder}
use Rattle.cil_settle.specs.Cycles.{Leads}
use Rattle.cil_mls.specs.Edges.{IsBelow, IsFixed, IsNotFixed}
use Rattle.cil_mls.specs.OrderSteps.{AreNeighbours, HasEdgeTo, IsCounted}

pub same_number : (a b : ℕ) → a ≡ b → (a == b) ≡ true
same_number a b e = grind (arith, nat_tests)

pub order_of_two : (i j : ℕ) → (i < j) ⊎ ((i ≡ j) ⊎ (j < i))
order_of_two i j = grind arith

-- an edge leads from one number to another, or none does
pub leads_or_not : (edges : List Edge) (u v : ℕ) → Leads edges u v ⊎ (Leads edges u v → ⊥)
leads_or_not [] u v = inr (λ l. contains_none l.edge l.is_edge)
leads_or_not (e ∷ es) u v = elim (leads_or_not es u v) [
  | inl l ↦ inl (record { edge = l.edge; is_edge = contains_later l.edge e es l.is_edge; from_a = l.from_a; to_b = l.to_b })
  | inr f ↦ elim (cases_Bool (e.from == u)) [
    | inl a ↦ elim (cases_Bool (e.to == v)) [
      | inl b ↦ inl (record { edge = e; is_edge = contains_here e es; from_a = equal_number e.from u a; to_b = equal_number e.to v b })
      | inr b ↦ inr (λ l. elim (contains_cases l.edge e es l.is_edge) [
        | inl s ↦ let t = same_number e.to v (ap (λ x. x.to) s ∙ l.to_b) in cc
        | inr c ↦ f (record { edge = l.edge; is_edge = c; from_a = l.from_a; to_b = l.to_b })
      ])
    ]
    | inr a ↦ inr (λ l. elim (contains_cases l.edge e es l.is_edge) [
      | inl s ↦ let t = same_number e.from u (ap (λ x. x.from) s ∙ l.from_a) in cc
      | inr c ↦ f (record { edge = l.edge; is_edge = c; from_a = l.from_a; to_b = l.to_b })
    ])
  ]
]

-- ---- how many edges lead to each

adds_one : (b : Bool) (m : ℕ) → m ≡ cond b 1 0 + 0 → b ≡ true → m ≡ 1
adds_one true m e t = omega (arith, e)
adds_one false m e t = absurd (let f : false ≡ true = t in cc)

adds_none : (b : Bool) (m : ℕ) → m ≡ cond b 1 0 + 0 → b ≡ false → m ≡ 0
adds_none false m e t = omega (arith, e)
adds_none true m e t = absurd (let f : true ≡ false = t in cc)

pub counted_more : (edges : List Edge) (count : ℕ) (need : List ℕ) (e : Edge) (n : ℕ) → e.to < count → n ≡ get_or need e.to 0 → IsCounted edges count need
    → IsCounted (edges ++ e ∷ []) count (set need e.to (n + 1))
counted_more edges count need e n l is c = record {
  len = length-set need e.to (n + 1) ∙ c.len;
  each = λ u w.
      let more = count_append (λ x. x.to == u) edges (e ∷ []) in
      let one : count_by (λ (x : Edge). x.to == u) (e ∷ []) ≡ cond (e.to == u) 1 0 + 0 = count_cons (λ (x : Edge). x.to == u) e [] in
      let old = c.each u w in
      let len = c.len in
      elim (cases_Bool (e.to == u)) [
        | inl t ↦
            let at = equal_number e.to u t in
            let put : get_or (set need e.to (n + 1)) u 0 ≡ n + 1 = subst (λ k. get_or (set need e.to (n + 1)) k 0 ≡ n + 1) at (get_or-set_same need e.to (n + 1) 0 (omega (arith, l, len))) in
            let was : n ≡ get_or need u 0 = is ∙ ap (λ k. get_or need k 0) at in
            let gone = adds_one (e.to == u) _ one t in
            omega (arith, put, was, gone, more, old)
        | inr t ↦
            let off : (u ≡ e.to → ⊥) = λ s. let y = same_number e.to u (sym s) in cc in
            let put : get_or (set need e.to (n + 1)) u 0 ≡ get_or need u 0 = get_or-set_other need e.to u (n + 1) 0 off in
            let gone = adds_none (e.to == u) _ one t in
            omega (arith, put, gone, more, old)
      ];
}

-- no more edges lead to a number than there are
pub few : (edges : List Edge) (count u : ℕ) (need : List ℕ) → IsCounted edges count need → u < count → get_or need u 0 ≤ length edges
few edges count u need c l = let n = count_by-le-length (λ (e : Edge). e.to == u) edges in let m = c.each u l in omega (arith, n, m)

-- ---- neighbours

pub of_leaving : (u v : ℕ) (edges : List Edge) → HasEdgeTo (leaving u edges) v → Leads edges u v
of_leaving u v [] h = absurd (contains_none h.0 h.1)
of_leaving u v (e ∷ es) h = elim (cases_Bool (e.from == u)) [
  | inl a ↦
      let c : Contains (e ∷ leaving u es) h.0 = subst (λ b. Contains (cond b (e ∷ leaving u es) (leaving u es)) h.0) a h.1 in
      elim (contains_cases h.0 e (leaving u es) c) [
        | inl s ↦ record { edge = e; is_edge = contains_here e es; from_a = equal_number e.from u a; to_b = ap (λ x. x.to) s ∙ h.2 }
        | inr d ↦ later (of_leaving u v es (h.0, d, h.2))
      ]
  | inr a ↦
      let c : Contains (leaving u es) h.0 = subst (λ b. Contains (cond b (e ∷ leaving u es) (leaving u es)) h.0) a h.1 in
      later (of_leaving u v es (h.0, c, h.2))
]
  where
    later : Leads es u v → Leads (e ∷ es) u v
    later l = record { edge = l.edge; is_edge = contains_later l.edge e es l.is_edge; from_a = l.from_a; to_b = l.to_b }

in_leaving : (u : ℕ) (edges : List Edge) (x : Edge) → Contains edges x → x.from ≡ u → Contains (leaving u edges) x
in_leaving u [] x c b = c
in_leaving u (e ∷ es) x c b = elim (contains_cases x e es c) [
  | inl s ↦
      let t = same_number e.from u (ap (λ y. y.from) s ∙ b) in
      subst (λ z. Contains (cond z (e ∷ leaving u es) (leaving u es)) x) (sym t) (subst (λ y. Contains (e ∷ leaving u es) y) s (contains_here e (leaving u es)))
  | inr d ↦ elim (cases_Bool (e.from == u)) [
    | inl a ↦ subst (λ z. Contains (cond z (e ∷ leaving u es) (leaving u es)) x) (sym a) (contains_later x e (leaving u es) (in_leaving u es x d b))
    | inr a ↦ subst (λ z. Contains (cond z (e ∷ leaving u es) (leaving u es)) x) (sym a) (in_leaving u es x d b)
  ]
]

pub to_leaving : (u v : ℕ) (edges : List Edge) → Leads edges u v → HasEdgeTo (leaving u edges) v
to_leaving u v edges l = (l.edge, in_leaving u edges l.edge l.is_edge l.from_a, l.to_b)

-- edges lead from each of the first to the next
abbrev pub AreJoinedUpTo : List Edge → List ℕ → ℕ → Type 0
AreJoinedUpTo edges order at = (0 < at) × ((i : ℕ) → suc i < at → suc i < length order → Leads edges (get_or order i 0) (get_or order (suc i) 0))

pub joined_more : (edges row : List Edge) (order : List ℕ) (at : ℕ) → row ≡ leaving (get_or order (at - 1) 0) edges → HasEdgeTo row (get_or order at 0)
    → AreJoinedUpTo edges order at → AreJoinedUpTo edges order (at + 1)
joined_more edges row order at is has before = (
  omega arith,
  λ i l m. elim (order_of_two (suc i) at) [
    | inl less ↦ before.1 i less m
    | inr r ↦ elim r [
      | inl e ↦
          let low : at - 1 ≡ i = omega (arith, e) in
          let one = of_leaving (get_or order (at - 1) 0) (get_or order at 0) edges (subst (λ es. HasEdgeTo es (get_or order at 0)) is has) in
          subst (λ k. Leads edges (get_or order i 0) (get_or order k 0)) (sym e) (subst (λ k. Leads edges (get_or order k 0) (get_or order at 0)) low one)
      | inr more ↦ absurd (omega (arith, more, l))
    ]
  ],
)

pub not_joined : (edges row : List Edge) (order : List ℕ) (at : ℕ) → row ≡ leaving (get_or order (at - 1) 0) edges → (HasEdgeTo row (get_or order at 0) → ⊥)
    → 0 < at → at < length order → AreNeighbours edges order → ⊥
not_joined edges row order at is none some l joined =
    let high : suc (at - 1) ≡ at = omega (arith, some) in
    let one = subst (λ k. Leads edges (get_or order (at - 1) 0) (get_or order k 0)) high (joined (at - 1) (omega (arith, high, l))) in
    none (subst (λ es. HasEdgeTo es (get_or order at 0)) (sym is) (to_leaving (get_or order (at - 1) 0) (get_or order at 0) edges one))

-- ---- edges in another order

leads_too : (es fs : List Edge) → ((e : Edge) → Contains es e → Contains fs e) → (u v : ℕ) → Leads es u v → Leads fs u v
leads_too es fs f u v l = record { edge = l.edge; is_edge = f l.edge l.is_edge; from_a = l.from_a; to_b = l.to_b }

order_too : (count : ℕ) (es fs : List Edge) (row : List ℕ) → ((e : Edge) → Contains fs e → Contains es e) → IsOrder (IsBelow count) (Leads es) row → IsOrder (IsBelow count) (Leads fs) row
order_too count es fs row f o = record { items = o.items; once = o.once; upwards = λ i j x y l. o.upwards i j x y (leads_too fs es f x y l) }

pub fixed_too : (count : ℕ) (es fs : List Edge) (row : List ℕ) → ((e : Edge) → Contains es e → Contains fs e) → ((e : Edge) → Contains fs e → Contains es e) → IsFixed count es row → IsFixed count fs row
fixed_too count es fs row there back fixed = record {
  is_order = order_too count es fs row back fixed.is_order;
  only = λ other o. fixed.only other (order_too count fs es other there o);
}

-- ---- sorted edges fix what the edges fix

module _ {V E : Type 0} (items : V → List ℕ) where
  pub answered_too : (count : ℕ) (es fs : List Edge) (r : Result (Option V) E) → IsPermutation es fs
      → IfOk r (λ o. MatchOption o (IsNotFixed count fs) (λ row. IsFixed count fs (items row)))
      → IfOk r (λ o. MatchOption o (IsNotFixed count es) (λ row. IsFixed count es (items row)))
  answered_too count es fs (Err e) p h = tt
  answered_too count es fs (Ok None) p h = λ row f. h row (fixed_too count es fs row (λ e. Contains-permutation es fs e p) (λ e. Contains-permutation fs es e (IsPermutation-sym es fs p)) f)
  answered_too count es fs (Ok (Some v)) p h = fixed_too count fs es (items v) (λ e. Contains-permutation fs es e (IsPermutation-sym es fs p)) (λ e. Contains-permutation es fs e p) h

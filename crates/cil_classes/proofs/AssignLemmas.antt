-- What class permissions and map permissions are given, as masks.
use Rattle.std.specs.Prelude.{◌⊎◌, Contains, IsBitSet, IsPermutation, All, bit_or, set}
use Rattle.std.specs.List.Sorted.{IsNonDecreasingBy}
use Rattle.std.proofs.Common.{◌≡◌, ℕ, ◌+◌, ◌<◌, ◌≤◌, List, [], ◌∷◌, ◌++◌, length, take, drop, get_or, refl, sym, ◌∙◌, ap, subst, inl, inr, arith}
use Rattle.std.proofs.lemmas.Bool.{cases_eq}
use Rattle.std.proofs.lemmas.List.{get_or_default, get_or-set_other, get_or-set_same, get_or-replicate, length-set, take-append-le, take_all, take_more}
use Rattle.std.proofs.lemmas.List.Elements.{Contains-append_left, Contains-append_right, Contains-append_cases}
use Rattle.std.proofs.lemmas.List.Sorted.{Contains-permutation, IsPermutation-sym, length_permutation}
use Rattle.std.proofs.Math.ListN.{get_or-eq_default, replicate}
use Rattle.cil_base.specs.Lists.{contains_cases, contains_here, contains_none}
use Rattle.cil_base.specs.MadeLists.{contains_flat, contains_map, from_flat, from_map}
use Rattle.cil_settle.specs.declared.edge.Edge.{Edge}
use Rattle.cil_settle.specs.Settled.{leads_within}
use Rattle.cil_classes.proofs.BitLemmas.{none_set, set_in_either}
use Rattle.cil_settle.specs.Spread.{Flows, IsSpread, begins, goes_on, mask_at}
use Rattle.cil_classes.specs.declared.assigned.Given.{Given}
use Rattle.cil_classes.specs.Assigned.{AreEdges, AreMasks, AreStarted, Has, IsAdded, IsWithin, all_edges, edge_to, edges_to, own, through}

-- ---- edges

pub edges_are : (givens : List Given) (edges : List Edge) → IsPermutation (all_edges givens) edges → ((e : Edge) → Contains edges e → Contains (all_edges givens) e) → AreEdges givens edges
edges_are givens edges moved back = record {
  each = λ g v cg cv. (
    edge_to g.to v,
    Contains-permutation (all_edges givens) edges (edge_to g.to v) moved (contains_flat (λ (h : Given). edges_to h.to h.part.from.items) givens g (edge_to g.to v) cg (contains_map (edge_to g.to) g.part.from.items v cv)),
    refl,
    refl,
  );
  only = λ e c.
      let (g, cg, ce) = from_flat (λ (h : Given). edges_to h.to h.part.from.items) givens e (back e c) in
      let (v, cv, same) = from_map (edge_to g.to) g.part.from.items e ce in
      (g, cg, subst (Contains g.part.from.items) (ap (λ (x : Edge). x.from) same) cv, sym (ap (λ (x : Edge). x.to) same));
}

-- ---- what a statement gives by itself

pub added_not : (class_ : ℕ) (g : Given) (masks : List ℕ) → (g.part.class ≡ class_ → ⊥) → IsAdded class_ g masks masks
added_not class_ g masks other = record {
  len = refl;
  bits = λ v bit. (λ b. inl b, λ d. elim d [ inl b ↦ b | inr t ↦ absurd (other t.0) ]);
}

pub added : (class_ : ℕ) (g : Given) (masks : List ℕ) (old : ℕ) → g.to < length masks → old ≡ mask_at masks g.to → g.part.class ≡ class_ → IsAdded class_ g masks (set masks g.to (bit_or old g.part.mask))
added class_ g masks old within is same = record {
  len = length-set masks g.to (bit_or old g.part.mask);
  bits = λ v bit. elim (cases_eq v g.to) [
    | inl e ↦
        let here : mask_at (set masks g.to (bit_or old g.part.mask)) v ≡ bit_or (mask_at masks v) g.part.mask =
        ap (mask_at (set masks g.to (bit_or old g.part.mask))) e ∙ get_or-set_same masks g.to (bit_or old g.part.mask) 0 within ∙ ap (λ k. bit_or k g.part.mask) (is ∙ ap (mask_at masks) (sym e)) in (
          λ b. elim ((set_in_either (mask_at masks v) g.part.mask bit).0 (subst (λ k. IsBitSet k bit) here b)) [ inl c ↦ inl c | inr c ↦ inr (same, sym e, c) ],
          λ d. subst (λ k. IsBitSet k bit) (sym here) ((set_in_either (mask_at masks v) g.part.mask bit).1 (elim d [ inl c ↦ inl c | inr t ↦ inr t.2 ])),
        )
    | inr other ↦
        let there : mask_at (set masks g.to (bit_or old g.part.mask)) v ≡ mask_at masks v = get_or-set_other masks g.to v (bit_or old g.part.mask) 0 other in
        (λ b. inl (subst (λ k. IsBitSet k bit) there b), λ d. elim d [ inl c ↦ subst (λ k. IsBitSet k bit) (sym there) c | inr t ↦ absurd (other (sym t.1)) ])
  ];
}

pub none_started : (class_ count : ℕ) (masks : List ℕ) → masks ≡ replicate count 0 → AreStarted [] class_ count masks
none_started class_ count masks is = record {
  len = ap length is ∙ Rattle.std.proofs.lemmas.List.length-replicate {A = ℕ} count 0;
  bits = λ v bit. (λ b. absurd (none_set bit (subst (λ k. IsBitSet k bit) (ap (λ ms. mask_at ms v) is ∙ zero_at v count) b)), λ o. absurd (contains_none o.given o.is_given));
}
  where
    inside : (v n : ℕ) → (v < n) ⊎ (n ≤ v)
    inside v n = grind arith

    zero_at : (v n : ℕ) → mask_at (replicate n 0) v ≡ 0
    zero_at v n = elim (inside v n) [
      | inl l ↦ get_or-replicate n v 0 0 l
      | inr over ↦ get_or-eq_default (replicate n 0) 0 (let e = Rattle.std.proofs.lemmas.List.length-replicate {A = ℕ} n 0 in omega (arith, e, over))
    ]

pub one_started : (givens : List Given) (i : ℕ) (g : Given) (class_ count : ℕ) (masks more : List ℕ) → i < length givens → g ≡ get_or givens i g → AreStarted (take i givens) class_ count masks → IsAdded class_ g masks more
    → AreStarted (take (i + 1) givens) class_ count more
one_started givens i g class_ count masks more l is so_far one =
    let next : take (i + 1) givens ≡ take i givens ++ g ∷ [] = take_more givens i g l ∙ ap (λ z. take i givens ++ z ∷ []) (sym is) in
    subst (λ gs. AreStarted gs class_ count more) (sym next) (record {
      len = one.len ∙ so_far.len;
      bits = λ v bit. (
        λ b. elim ((one.bits v bit).0 b) [
          | inl old ↦ let o = (so_far.bits v bit).0 old in record { given = o.given; is_given = Contains-append_left (take i givens) (g ∷ []) o.given o.is_given; of_class = o.of_class; to = o.to; set = o.set }
          | inr t ↦ record { given = g; is_given = Contains-append_right (take i givens) (g ∷ []) g (contains_here g []); of_class = t.0; to = t.1; set = t.2 }
        ],
        λ o. (one.bits v bit).1 (elim (Contains-append_cases (take i givens) (g ∷ []) o.given o.is_given) [
          | inl c ↦ inl ((so_far.bits v bit).1 (record { given = o.given; is_given = c; of_class = o.of_class; to = o.to; set = o.set }))
          | inr c ↦ elim (contains_cases o.given g [] c) [
            | inl e ↦ inr (ap (λ (h : Given). h.part.class) e ∙ o.of_class, ap (λ (h : Given). h.to) e ∙ o.to, subst (λ (h : Given). IsBitSet h.part.mask bit) (sym e) o.set)
            | inr n ↦ absurd (contains_none o.given n)
          ]
        ]),
      );
    })

pub all_started : (givens : List Given) (i class_ count : ℕ) (masks : List ℕ) → length givens ≤ i → AreStarted (take i givens) class_ count masks → AreStarted givens class_ count masks
all_started givens i class_ count masks over so_far = subst (λ gs. AreStarted gs class_ count masks) (take_all i givens over) so_far

-- ---- what flows

module _ (givens : List Given) (edges : List Edge) (class_ count : ℕ) (start : List ℕ) (are : AreEdges givens edges) (started : AreStarted givens class_ count start) where
  has_of : (v bit : ℕ) → Flows edges start v bit → Has givens class_ v bit
  has_of v bit (begins u b set) = let o = (started.bits u b).0 set in subst (λ k. Has givens class_ k b) o.to (own o.given b o.is_given o.of_class o.set)
  has_of v bit (goes_on e b c flow) =
      let (g, cg, cv, same) = are.only e c in
      subst (λ k. Has givens class_ k b) (sym same) (through g e.from b cg cv (has_of e.from b flow))

  flow_of : (v bit : ℕ) → Has givens class_ v bit → Flows edges start v bit
  flow_of v bit (own g b cg same set) = begins g.to b ((started.bits g.to b).1 (record { given = g; is_given = cg; of_class = same; to = refl; set = set }))
  flow_of v bit (through g u b cg cv has) =
      let (e, ce, from, to) = are.each g u cg cv in
      subst (λ k. Flows edges start k b) to (goes_on e b ce (subst (λ k. Flows edges start k b) (sym from) (flow_of u b has)))

  pub masks_are : (masks : List ℕ) → IsSpread edges start masks → AreMasks givens class_ count masks
  masks_are masks spread = record {
    len = spread.len ∙ started.len;
    bits = λ v bit. (λ b. has_of v bit ((spread.bits v bit).0 b), λ h. (spread.bits v bit).1 (flow_of v bit h));
  }

-- each edge leads to a node
pub edges_within : (givens : List Given) (edges : List Edge) (count : ℕ) (start : List ℕ) → AreEdges givens edges → All (IsWithin count) givens → length start ≡ count → All (leads_within (length start)) edges
edges_within givens edges count start are within len = λ k d l.
    let (g, cg, cv, same) = are.only (get_or edges k d) (k, l, get_or_default edges k _ d l) in
    let (j, lj, at) = cg in
    let small : g.to < count = subst (λ (h : Given). h.to < count) at (within j g (lj)) in
    omega (arith, small, same, len)

-- the edges, as a sort leaves them
whole_sort : (old new : List Edge) (n : ℕ) → n ≡ length old → IsPermutation old new → take n (new ++ drop (length new) old) ≡ new
whole_sort old new n len moved =
    let long : length new ≡ length old = length_permutation old new moved in
    ap (λ k. take k (new ++ drop (length new) old)) (len ∙ sym long) ∙ take-append-le (length new) new (drop (length new) old) (omega arith) ∙ take_all (length new) new (omega arith)

pub edges_sorted : (givens : List Given) (old new : List Edge) (n : ℕ) → old ≡ all_edges givens → n ≡ length old → IsPermutation old new
    → AreEdges givens (take n (new ++ drop (length new) old))
edges_sorted givens old new n made len moved =
    subst (AreEdges givens) (sym (whole_sort old new n len moved))
    (edges_are givens new (subst (λ es. IsPermutation es new) made moved)
    (λ e c. subst (λ es. Contains es e) made (Contains-permutation new old e (IsPermutation-sym old new moved) c)))

pub edges_rise : (old new : List Edge) (n : ℕ) → n ≡ length old → IsPermutation old new → IsNonDecreasingBy (λ (e : Edge). e.from) new
    → IsNonDecreasingBy (λ (e : Edge). e.from) (take n (new ++ drop (length new) old))
edges_rise old new n len moved rising = subst (λ (es : List Edge). IsNonDecreasingBy (λ (e : Edge). e.from) es) (sym (whole_sort old new n len moved)) rising

-- before the first statement
pub none_made : (givens : List Given) (made : List Edge) → made ≡ [] → made ≡ all_edges (take 0 givens)
none_made [] made e = e
none_made (g ∷ gs) made e = e

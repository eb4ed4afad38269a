-- A guess that passes the check tells the nodes on cycles, and ranks.
use Rattle.std.proofs.Common.{set, take, ◌++◌, ◌≡◌, ◌⊎◌, ℕ, ◌+◌, ◌<◌, ◌≤◌, Bool, true, false, List, [], ◌∷◌, length, get_or, refl, sym, ◌∙◌, ap, subst, inl, inr, arith}
use Rattle.std.specs.Prelude.{Contains, All, IsPermutation}
use Rattle.std.proofs.lemmas.List.{get_or-set_other, get_or-set_same, length-set, take_all, take_more}
use Rattle.std.proofs.lemmas.List.Elements.{All-contains, All-from_recursion, Contains-append_left, Contains-push, Contains-push_cases}
use Rattle.std.proofs.lemmas.List.Sorted.{Contains-permutation, IsPermutation-sym}
use Rattle.cil_base.specs.Lists.{contains_none}
use Rattle.cil_base.specs.Rising.{all_from}
use Rattle.cil_settle.specs.Settled.{leads_within}
use Rattle.cil_settle.specs.declared.edge.Edge.{Edge}
use Rattle.cil_settle.specs.Checked.{AreCovered, AreInner, AreLeaving, AreRoots, AreSteady, AreTurned, IsInner, IsWhole}
use Rattle.cil_settle.specs.Cycles.{AreOnCycles, Fall, HasNoCycle, IsWithin, Leads, Reaches, at_once, further}
use Rattle.cil_settle.specs.Reached.{AreReached, AreStarts}
use Rattle.cil_settle.proofs.PlainLemmas.{same_or}
use Rattle.cil_settle.proofs.ReachLemmas.{path_join, path_more}

all_from_members : (P : Edge → Type 0) (xs : List Edge) → ((x : Edge) → Contains xs x → P x) → All P xs
all_from_members P xs f = All-from_recursion P xs (all_from P xs f)

module _ (edges inner : List Edge) (nodes : ℕ) (roots ranks : List ℕ) (all : All (IsWithin nodes) edges) (steady : AreSteady edges roots ranks) (are_inner : AreInner edges roots ranks inner) where
  wider : (a b : ℕ) → Leads inner a b → Leads edges a b
  wider a b l = record { edge = l.edge; is_edge = ((are_inner l.edge).0 l.is_edge).0; from_a = l.from_a; to_b = l.to_b }

  wider_path : (a b : ℕ) → Reaches inner a b → Reaches edges a b
  wider_path a b (at_once p q l) = at_once a b (wider a b l)
  wider_path a b (further p x q l r) = further a x b (wider a x l) (wider_path x b r)

  one_root : (a b : ℕ) → Leads inner a b → get_or roots a 0 ≡ get_or roots b 0
  one_root a b l = ap (λ k. get_or roots k 0) (sym l.from_a) ∙ ((are_inner l.edge).0 l.is_edge).1.0 ∙ ap (λ k. get_or roots k 0) l.to_b

  one_root_path : (a b : ℕ) → Reaches inner a b → get_or roots a 0 ≡ get_or roots b 0
  one_root_path a b (at_once p q l) = one_root a b l
  one_root_path a b (further p x q l r) = one_root a x l ∙ one_root_path x b r

  steady_lead : (a b : ℕ) → Leads edges a b → Leads inner a b ⊎ (get_or ranks b 0 < get_or ranks a 0)
  steady_lead a b l = elim (steady l.edge l.is_edge) [
    | inl i ↦ inl (record { edge = l.edge; is_edge = (are_inner l.edge).1 (l.is_edge, i); from_a = l.from_a; to_b = l.to_b })
    | inr f ↦ inr (subst (λ k. get_or ranks b 0 < get_or ranks k 0) l.from_a (subst (λ k. get_or ranks k 0 < get_or ranks l.edge.from 0) l.to_b f))
  ]

  one_rank : (a b : ℕ) → Leads inner a b → get_or ranks a 0 ≡ get_or ranks b 0
  one_rank a b l = ap (λ k. get_or ranks k 0) (sym l.from_a) ∙ ((are_inner l.edge).0 l.is_edge).1.1 ∙ ap (λ k. get_or ranks k 0) l.to_b

  no_rise : (a b : ℕ) → Leads edges a b → get_or ranks b 0 ≤ get_or ranks a 0
  no_rise a b l = elim (steady_lead a b l) [ inl i ↦ let e = one_rank a b i in omega (arith, e) | inr f ↦ omega (arith, f) ]

  no_rise_path : (a b : ℕ) → Reaches edges a b → get_or ranks b 0 ≤ get_or ranks a 0
  no_rise_path a b (at_once p q l) = no_rise a b l
  no_rise_path a b (further p x q l r) = let h = no_rise a x l in let m = no_rise_path x b r in omega (arith, h, m)

  -- a node on a cycle is left by an edge that stays in its part
  pub leaves_inner : (v : ℕ) → Reaches edges v v → (b : ℕ) × Leads inner v b
  leaves_inner v (at_once p q l) = elim (steady_lead v v l) [ inl i ↦ (v, i) | inr f ↦ absurd (omega (arith, f)) ]
  leaves_inner v (further p x q l r) = elim (steady_lead v x l) [ inl i ↦ (x, i) | inr f ↦ absurd (let m = no_rise_path x v r in omega (arith, f, m)) ]

  -- where no edge stays in a part, ranks fall
  pub ranks_fall : (on : List Bool) → AreOnCycles edges nodes on → ((v b : ℕ) → Leads inner v b → Reaches edges v v) → HasNoCycle edges → Fall edges ranks
  ranks_fall on o circles none a b l = elim (steady_lead a b l) [ inl i ↦ absurd (none a (circles a b i)) | inr f ↦ f ]

  module _ (turned : List Edge) (need_forward need_backward : List ℕ) (forward backward : List Bool) (are_turned : AreTurned inner turned)
      (roots_forward : AreRoots nodes roots need_forward) (roots_backward : AreRoots nodes roots need_backward)
      (reached_forward : AreReached inner need_forward forward) (reached_backward : AreReached turned need_backward backward) (covered : AreCovered inner forward backward) where
    turn_path : (a b : ℕ) → Reaches turned a b → Reaches inner b a
    turn_path a b (at_once p q l) = at_once b a (are_turned.back b a l)
    turn_path a b (further p x q l r) = path_more inner b x a (turn_path x b r) (are_turned.back x a l)

    -- the root of a node leads to it, or is the node
    from_root : (v : ℕ) → v < nodes → get_or forward v false ≡ true → (get_or roots v 0 ≡ v) ⊎ Reaches inner (get_or roots v 0) v
    from_root v l t = elim ((reached_forward.each v (let n = roots_forward.len in omega (arith, l, n))).0 t) [
      | inl s ↦ inl (roots_forward.each v l s.1)
      | inr p ↦
          let own = roots_forward.each p.0 (let n = roots_forward.len in let m = p.1.0 in omega (arith, m, n)) p.1.1 in
          inr (subst (λ k. Reaches inner k v) (sym own ∙ one_root_path p.0 v p.2) p.2)
    ]

    to_root : (v : ℕ) → v < nodes → get_or backward v false ≡ true → (get_or roots v 0 ≡ v) ⊎ Reaches inner v (get_or roots v 0)
    to_root v l t = elim ((reached_backward.each v (let n = roots_backward.len in omega (arith, l, n))).0 t) [
      | inl s ↦ inl (roots_backward.each v l s.1)
      | inr p ↦
          let own = roots_backward.each p.0 (let n = roots_backward.len in let m = p.1.0 in omega (arith, m, n)) p.1.1 in
          let path = turn_path p.0 v p.2 in
          inr (subst (λ k. Reaches inner v k) (sym own ∙ sym (one_root_path v p.0 path)) path)
    ]

    -- an edge that stays in its part lies on a cycle
    pub circles : (v b : ℕ) → Leads inner v b → Reaches edges v v
    circles v b l =
        let w = All-contains (IsWithin nodes) edges l.edge all ((are_inner l.edge).0 l.is_edge).0 in
        let c = covered l.edge l.is_edge in
        let v_node : v < nodes = subst (λ k. k < nodes) l.from_a w.from_node in
        let b_node : b < nodes = subst (λ k. k < nodes) l.to_b w.to_node in
        wider_path v v (round (to_root b b_node (subst (λ k. get_or backward k false ≡ true) l.to_b c.1)) (from_root v v_node (subst (λ k. get_or forward k false ≡ true) l.from_a c.0))) where
          same : get_or roots v 0 ≡ get_or roots b 0
          same = one_root v b l

          round : (get_or roots b 0 ≡ b) ⊎ Reaches inner b (get_or roots b 0) → (get_or roots v 0 ≡ v) ⊎ Reaches inner (get_or roots v 0) v → Reaches inner v v
          round (inl e) (inl f) = at_once v v (subst (Leads inner v) (sym e ∙ sym same ∙ f) l)
          round (inl e) (inr q) = further v b v l (subst (λ k. Reaches inner k v) (same ∙ e) q)
          round (inr p) (inl f) = further v b v l (subst (Reaches inner b) (sym same ∙ f) p)
          round (inr p) (inr q) = further v b v l (path_join inner b (get_or roots b 0) v p (subst (λ k. Reaches inner k v) same q))

    pub on_cycles : (flags : List Bool) → AreLeaving inner nodes flags → AreOnCycles edges nodes flags
    on_cycles flags a = record {
      len = a.len;
      each = λ v l. (λ t. let r = (a.each v l).0 t in circles v r.0 r.1, λ p. (a.each v l).1 (leaves_inner v p));
    }

-- ---- the loops of the check

pub taken : (edges : List Edge) (k : ℕ) (d e : Edge) → k < length edges → Contains (take (k + 1) edges) e → Contains (take k edges) e ⊎ (get_or edges k d ≡ e)
taken edges k d e l c = Contains-push_cases (take k edges) (get_or edges k d) e (subst (λ es. Contains es e) (take_more edges k d l) c)

pub take_wider : (edges : List Edge) (k : ℕ) (d e : Edge) → k < length edges → Contains (take k edges) e → Contains (take (k + 1) edges) e
take_wider edges k d e l c = subst (λ es. Contains es e) (sym (take_more edges k d l)) (Contains-append_left (take k edges) (get_or edges k d ∷ []) e c)

pub take_this : (edges : List Edge) (k : ℕ) (d : Edge) → k < length edges → Contains (take (k + 1) edges) (get_or edges k d)
take_this edges k d l = subst (λ es. Contains es (get_or edges k d)) (sym (take_more edges k d l)) (Contains-push (take k edges) (get_or edges k d))

pub taken_all : (edges : List Edge) (k : ℕ) (e : Edge) → length edges ≤ k → Contains edges e → Contains (take k edges) e
taken_all edges k e l c = subst (λ es. Contains es e) (sym (take_all k edges l)) c

pub steady_more : (edges : List Edge) (k : ℕ) (d : Edge) (roots ranks : List ℕ) → k < length edges → AreSteady (take k edges) roots ranks
    → IsInner roots ranks (get_or edges k d) ⊎ (get_or ranks (get_or edges k d).to 0 < get_or ranks (get_or edges k d).from 0) → AreSteady (take (k + 1) edges) roots ranks
steady_more edges k d roots ranks l s h e c = elim (taken edges k d e l c) [
  | inl x ↦ s e x
  | inr x ↦ subst (λ (y : Edge). IsInner roots ranks y ⊎ (get_or ranks y.to 0 < get_or ranks y.from 0)) x h
]

pub steady_all : (edges : List Edge) (k : ℕ) (roots ranks : List ℕ) → length edges ≤ k → AreSteady (take k edges) roots ranks → AreSteady edges roots ranks
steady_all edges k roots ranks l s e c = s e (taken_all edges k e l c)

module _ (edges : List Edge) (k : ℕ) (d : Edge) (roots ranks : List ℕ) (inner : List Edge) (l : k < length edges) (i : AreInner (take k edges) roots ranks inner) where
  pub inner_yes : IsInner roots ranks (get_or edges k d) → AreInner (take (k + 1) edges) roots ranks (inner ++ get_or edges k d ∷ [])
  inner_yes h e = (
    λ c. elim (Contains-push_cases inner (get_or edges k d) e c) [
      | inl x ↦ (take_wider edges k d e l ((i e).0 x).0, ((i e).0 x).1)
      | inr x ↦ (subst (Contains (take (k + 1) edges)) x (take_this edges k d l), subst (IsInner roots ranks) x h)
    ],
    λ p. elim (taken edges k d e l p.0) [
      | inl x ↦ Contains-append_left inner (get_or edges k d ∷ []) e ((i e).1 (x, p.1))
      | inr x ↦ subst (Contains (inner ++ get_or edges k d ∷ [])) x (Contains-push inner (get_or edges k d))
    ],
  )

  pub inner_not : (IsInner roots ranks (get_or edges k d) → ⊥) → AreInner (take (k + 1) edges) roots ranks inner
  inner_not h e = (
    λ c. (take_wider edges k d e l ((i e).0 c).0, ((i e).0 c).1),
    λ p. elim (taken edges k d e l p.0) [ inl x ↦ (i e).1 (x, p.1) | inr x ↦ absurd (h (subst (IsInner roots ranks) (sym x) p.1)) ],
  )

pub inner_all : (edges : List Edge) (k : ℕ) (roots ranks : List ℕ) (inner : List Edge) → length edges ≤ k → AreInner (take k edges) roots ranks inner → AreInner edges roots ranks inner
inner_all edges k roots ranks inner l i = subst (λ es. AreInner es roots ranks inner) (take_all k edges l) i

pub inner_sorted : (edges : List Edge) (roots ranks : List ℕ) (inner new : List Edge) → IsPermutation inner new → AreInner edges roots ranks inner → AreInner edges roots ranks new
inner_sorted edges roots ranks inner new p i e = (λ c. (i e).0 (Contains-permutation new inner e (IsPermutation-sym inner new p) c), λ h. Contains-permutation inner new e p ((i e).1 h))

pub inner_within : (edges : List Edge) (roots ranks : List ℕ) (inner : List Edge) (nodes : ℕ) → All (IsWithin nodes) edges → AreInner edges roots ranks inner → All (IsWithin nodes) inner
inner_within edges roots ranks inner nodes all i = all_from_members (IsWithin nodes) inner (λ e c. All-contains (IsWithin nodes) edges e all ((i e).0 c).0)

pub turned_more : (edges : List Edge) (k : ℕ) (d : Edge) (turned : List Edge) (new : Edge) → k < length edges → new.from ≡ (get_or edges k d).to → new.to ≡ (get_or edges k d).from
    → AreTurned (take k edges) turned → AreTurned (take (k + 1) edges) (turned ++ new ∷ [])
turned_more edges k d turned new l f t r = record {
  there = λ a b h. elim (taken edges k d h.edge l h.is_edge) [
    | inl x ↦ let o = r.there a b (record { edge = h.edge; is_edge = x; from_a = h.from_a; to_b = h.to_b }) in
        record { edge = o.edge; is_edge = Contains-append_left turned (new ∷ []) o.edge o.is_edge; from_a = o.from_a; to_b = o.to_b }
    | inr x ↦ record { edge = new; is_edge = Contains-push turned new; from_a = f ∙ ap (λ (y : Edge). y.to) x ∙ h.to_b; to_b = t ∙ ap (λ (y : Edge). y.from) x ∙ h.from_a }
  ];
  back = λ a b h. elim (Contains-push_cases turned new h.edge h.is_edge) [
    | inl x ↦ let o = r.back a b (record { edge = h.edge; is_edge = x; from_a = h.from_a; to_b = h.to_b }) in
        record { edge = o.edge; is_edge = take_wider edges k d o.edge l o.is_edge; from_a = o.from_a; to_b = o.to_b }
    | inr x ↦ record { edge = get_or edges k d; is_edge = take_this edges k d l; from_a = sym t ∙ ap (λ (y : Edge). y.to) x ∙ h.to_b; to_b = sym f ∙ ap (λ (y : Edge). y.from) x ∙ h.from_a }
  ];
}

pub turned_all : (edges : List Edge) (k : ℕ) (turned : List Edge) → length edges ≤ k → AreTurned (take k edges) turned → AreTurned edges turned
turned_all edges k turned l t = subst (λ es. AreTurned es turned) (take_all k edges l) t

pub turned_sorted : (edges turned new : List Edge) → IsPermutation turned new → AreTurned edges turned → AreTurned edges new
turned_sorted edges turned new p t = record {
  there = λ a b h. let o = t.there a b h in record { edge = o.edge; is_edge = Contains-permutation turned new o.edge p o.is_edge; from_a = o.from_a; to_b = o.to_b };
  back = λ a b h. t.back a b (record { edge = h.edge; is_edge = Contains-permutation new turned h.edge (IsPermutation-sym turned new p) h.is_edge; from_a = h.from_a; to_b = h.to_b });
}

pub turned_within : (edges turned : List Edge) (nodes : ℕ) → All (IsWithin nodes) edges → AreTurned edges turned → All (IsWithin nodes) turned
turned_within edges turned nodes all t = all_from_members (IsWithin nodes) turned (λ e c.
    let o = t.back e.to e.from (record { edge = e; is_edge = c; from_a = refl; to_b = refl }) in
    let w = All-contains (IsWithin nodes) edges o.edge all o.is_edge in
    record { from_node = subst (λ k. k < nodes) o.to_b w.to_node; to_node = subst (λ k. k < nodes) o.from_a w.from_node })

pub leaving_none : (nodes : ℕ) (flags : List Bool) → length flags ≡ nodes → ((v : ℕ) → get_or flags v false ≡ false) → AreLeaving [] nodes flags
leaving_none nodes flags len none = record {
  len = len;
  each = λ v l. (λ t. absurd (let e : false ≡ true = sym (none v) ∙ t in cc), λ r. absurd (contains_none r.1.edge r.1.is_edge));
}

pub leaving_more : (edges : List Edge) (k : ℕ) (d : Edge) (nodes : ℕ) (flags : List Bool) → k < length edges → (get_or edges k d).from < nodes → AreLeaving (take k edges) nodes flags
    → AreLeaving (take (k + 1) edges) nodes (set flags (get_or edges k d).from true)
leaving_more edges k d nodes flags l w a = record {
  len = length-set flags (get_or edges k d).from true ∙ a.len;
  each = λ v m. elim (same_or v (get_or edges k d).from) [
    | inl h ↦ (
      λ t. ((get_or edges k d).to, record { edge = get_or edges k d; is_edge = take_this edges k d l; from_a = sym h; to_b = refl }),
      λ r. ap (λ n. get_or (set flags (get_or edges k d).from true) n false) h ∙ get_or-set_same flags (get_or edges k d).from true false (let n = a.len in omega (arith, w, n)),
    )
    | inr n ↦ (
      λ t. let r = (a.each v m).0 (sym (get_or-set_other flags (get_or edges k d).from v true false n) ∙ t) in
          (r.0, record { edge = r.1.edge; is_edge = take_wider edges k d r.1.edge l r.1.is_edge; from_a = r.1.from_a; to_b = r.1.to_b }),
      λ r. get_or-set_other flags (get_or edges k d).from v true false n ∙ elim (taken edges k d r.1.edge l r.1.is_edge) [
        | inl x ↦ (a.each v m).1 (r.0, record { edge = r.1.edge; is_edge = x; from_a = r.1.from_a; to_b = r.1.to_b })
        | inr x ↦ absurd (n (sym (ap (λ (y : Edge). y.from) x ∙ r.1.from_a)))
      ],
    )
  ];
}

pub leaving_all : (edges : List Edge) (k nodes : ℕ) (flags : List Bool) → length edges ≤ k → AreLeaving (take k edges) nodes flags → AreLeaving edges nodes flags
leaving_all edges k nodes flags l a = subst (λ es. AreLeaving es nodes flags) (take_all k edges l) a

pub starts_few : (nodes : ℕ) (roots need : List ℕ) → AreRoots nodes roots need → AreStarts need
starts_few nodes roots need r v l = let n = r.len in r.few v (omega (arith, l, n))

pub leads_in : (nodes n : ℕ) (edges : List Edge) → n ≡ nodes → All (IsWithin nodes) edges → All (leads_within n) edges
leads_in nodes n edges e all = all_from_members (leads_within n) edges (λ x c. subst (λ k. x.to < k) (sym e) (All-contains (IsWithin nodes) edges x all c).to_node)

-- a guess that passes
pub passes_on : (edges inner : List Edge) (nodes : ℕ) (roots ranks : List ℕ) (flags : List Bool) → All (IsWithin nodes) edges → AreSteady edges roots ranks → AreInner edges roots ranks inner
    → IsWhole inner nodes roots → AreLeaving inner nodes flags → AreOnCycles edges nodes flags
passes_on edges inner nodes roots ranks flags all steady are_inner w a =
    on_cycles edges inner nodes roots ranks all steady are_inner w.turned w.need_forward w.need_backward w.forward w.backward w.are_turned w.roots_forward w.roots_backward w.reached_forward w.reached_backward
    w.covered flags a

pub passes_ranks : (edges inner : List Edge) (nodes : ℕ) (roots ranks : List ℕ) (flags : List Bool) → All (IsWithin nodes) edges → AreSteady edges roots ranks → AreInner edges roots ranks inner
    → IsWhole inner nodes roots → AreLeaving inner nodes flags → HasNoCycle edges → Fall edges ranks
passes_ranks edges inner nodes roots ranks flags all steady are_inner w a =
    ranks_fall edges inner nodes roots ranks all steady are_inner flags (passes_on edges inner nodes roots ranks flags all steady are_inner w a)
    (circles edges inner nodes roots ranks all steady are_inner w.turned w.need_forward w.need_backward w.forward w.backward w.are_turned w.roots_forward w.roots_backward w.reached_forward
    w.reached_backward w.covered)

-- The steps between statements as edges of a graph: paths along edges are steps from statement to statement.
use Rattle.std.proofs.Common.{◌≡◌, ℕ, ◌+◌, ◌<◌, Bool, List, [], ◌++◌, get_or, map, refl, sym, ap, subst, inl, inr, arith}
use Rattle.std.specs.Prelude.{All, Contains, IsPermutation}
use Rattle.std.proofs.lemmas.List.Elements.{Contains-append_left, Contains-append_right, Contains-append_cases}
use Rattle.std.proofs.lemmas.List.Sorted.{Contains-permutation, IsPermutation-sym}
use Rattle.cil_base.specs.Lists.{contains_none}
use Rattle.cil_base.specs.MadeLists.{contains_map, from_map}
use Rattle.cil_base.specs.Places.{contains_at}
use Rattle.cil_settle.specs.declared.edge.Edge.{Edge}
use Rattle.cil_settle.specs.Cycles as graph
use Rattle.cil_blocks.specs.declared.parts.Parts.{Parts}
use Rattle.cil_blocks.specs.declared.targets.Targets.{Targets}
use Rattle.cil_blocks.specs.Entries.{parts_at}
use Rattle.cil_blocks.specs.Named.{targets_in}
use Rattle.cil_blocks.specs.Steps.{AreFlags, AreSteps, ComesBack, Follows, IsStep, Reaches, StayBelow, edge_from, itself, onward}
use Rattle.cil_blocks.proofs.StepLemmas.{or_last, reach_below}

-- ---- edges

edge_of : (n : ℕ) (ks : List ℕ) (e : Edge) → Contains (map (edge_from n) ks) e → (e.from ≡ n) × Contains ks e.to
edge_of n ks e c =
    let k = from_map (edge_from n) ks e c in
    (sym (ap (λ (x : Edge). x.from) k.2), subst (Contains ks) (ap (λ (x : Edge). x.to) k.2) k.1)

module _ (ps : Parts) (ts : Targets) where
  pub no_steps : (edges : List Edge) → edges ≡ [] → AreSteps ps ts 0 edges
  no_steps edges e = record {
    all = λ q k h s. absurd (omega (arith, h));
    only = λ q k l. absurd (contains_none l.edge (subst (λ es. Contains es l.edge) e l.is_edge));
  }

  -- those of one more statement: to those in it, and to its targets
  module _ (n : ℕ) (inside named : List ℕ) (a b d : List Edge) (p : inside ≡ parts_at ps n) (t : named ≡ targets_in ts n) (f : b ≡ a ++ map (edge_from n) inside)
      (g : d ≡ b ++ map (edge_from n) named) (so : AreSteps ps ts n a) where
    before : (e : Edge) → Contains b e → Contains d e
    before e c = subst (λ es. Contains es e) (sym g) (Contains-append_left b (map (edge_from n) named) e c)

    first : (e : Edge) → Contains a e → Contains d e
    first e c = before e (subst (λ es. Contains es e) (sym f) (Contains-append_left a (map (edge_from n) inside) e c))

    last_leads : (k : ℕ) → IsStep ps ts n k → graph.Leads d n k
    last_leads k (inl c) =
        let at = contains_map (edge_from n) inside k (subst (λ xs. Contains xs k) (sym p) c) in
        record {
          edge = edge_from n k;
          is_edge = before (edge_from n k) (subst (λ es. Contains es (edge_from n k)) (sym f) (Contains-append_right a (map (edge_from n) inside) (edge_from n k) at));
          from_a = refl;
          to_b = refl;
        }
    last_leads k (inr c) =
        let at = contains_map (edge_from n) named k (subst (λ xs. Contains xs k) (sym t) c) in
        record {
          edge = edge_from n k;
          is_edge = subst (λ es. Contains es (edge_from n k)) (sym g) (Contains-append_right b (map (edge_from n) named) (edge_from n k) at);
          from_a = refl;
          to_b = refl;
        }

    is_last : (e : Edge) → (e.from ≡ n) × IsStep ps ts n e.to → (e.from < n + 1) × IsStep ps ts e.from e.to
    is_last e h = let same = h.0 in (omega (arith, same), subst (λ x. IsStep ps ts x e.to) (sym same) h.1)

    of_first : (e : Edge) → Contains a e → (e.from < n + 1) × IsStep ps ts e.from e.to
    of_first e c =
        let h = so.only e.from e.to (record { edge = e; is_edge = c; from_a = refl; to_b = refl }) in
        let below = h.0 in
        (omega (arith, below), h.1)

    of_inside : (e : Edge) → Contains (map (edge_from n) inside) e → (e.from < n + 1) × IsStep ps ts e.from e.to
    of_inside e c = let h = edge_of n inside e c in is_last e (h.0, inl (subst (λ xs. Contains xs e.to) p h.1))

    of_named : (e : Edge) → Contains (map (edge_from n) named) e → (e.from < n + 1) × IsStep ps ts e.from e.to
    of_named e c = let h = edge_of n named e c in is_last e (h.0, inr (subst (λ xs. Contains xs e.to) t h.1))

    edge_steps : (e : Edge) → Contains d e → (e.from < n + 1) × IsStep ps ts e.from e.to
    edge_steps e c =
        elim (Contains-append_cases b (map (edge_from n) named) e (subst (λ es. Contains es e) g c)) [
          | inl h ↦ elim (Contains-append_cases a (map (edge_from n) inside) e (subst (λ es. Contains es e) f h)) [ inl i ↦ of_first e i | inr i ↦ of_inside e i ]
          | inr h ↦ of_named e h
        ]

    pub more_steps : AreSteps ps ts (n + 1) d
    more_steps = record {
      all = λ q k h s. elim (or_last q n h) [
        | inl below ↦ let l = so.all q k below s in record { edge = l.edge; is_edge = first l.edge l.is_edge; from_a = l.from_a; to_b = l.to_b }
        | inr same ↦ subst (λ x. graph.Leads d x k) (sym same) (last_leads k (subst (λ x. IsStep ps ts x k) same s))
      ];
      only = λ q k l.
          subst (λ x. (x < n + 1) × IsStep ps ts x k) l.from_a (subst (λ y. (l.edge.from < n + 1) × IsStep ps ts l.edge.from y) l.to_b (edge_steps l.edge l.is_edge));
    }

  pub steps_moved : (n : ℕ) (a b : List Edge) → IsPermutation a b → AreSteps ps ts n a → AreSteps ps ts n b
  steps_moved n a b same so = record {
    all = λ q k h s. let l = so.all q k h s in record { edge = l.edge; is_edge = Contains-permutation a b l.edge same l.is_edge; from_a = l.from_a; to_b = l.to_b };
    only = λ q k l.
        so.only q k (record { edge = l.edge; is_edge = Contains-permutation b a l.edge (IsPermutation-sym a b same) l.is_edge; from_a = l.from_a; to_b = l.to_b });
  }

  -- ---- paths

  module _ (n : ℕ) (edges : List Edge) (stay : StayBelow ps ts n) (so : AreSteps ps ts n edges) where
    one_more : (a b c : ℕ) → graph.Reaches edges a b → graph.Leads edges b c → graph.Reaches edges a c
    one_more a b c (graph.at_once u v l) m = graph.further a b c l (graph.at_once b c m)
    one_more a b c (graph.further u x w l r) m = graph.further a x c l (one_more x b c r m)

    path_on : (a b c : ℕ) → b < n → graph.Reaches edges a b → Reaches ps ts b c → graph.Reaches edges a c
    path_on a b c h r itself = r
    path_on a b c h r (onward q c' p s) = one_more a q c (path_on a b q h r p) (so.all q c (reach_below ps ts n b q stay h p) s)

    step_first : (a b c : ℕ) → IsStep ps ts a b → Reaches ps ts b c → Reaches ps ts a c
    step_first a b c s itself = onward a b itself s
    step_first a b c s (onward q c' r t) = onward q c (step_first a b q s r) t

    follows : (a c : ℕ) → graph.Reaches edges a c → Follows ps ts a c
    follows a c (graph.at_once u v l) = record { next = c; is_step = (so.only a c l).1; further = itself }
    follows a c (graph.further u b w l r) =
        let f = follows b c r in
        record { next = b; is_step = (so.only a b l).1; further = step_first b f.next c f.is_step f.further }

    comes_round : (i : ℕ) → i < n → ComesBack ps ts i → graph.Reaches edges i i
    comes_round i h c = path_on i c.next i (stay i c.next c.is_step) (graph.at_once i c.next (so.all i c.next h c.is_step)) c.further

    pub flags_are : (flags : List Bool) → graph.AreOnCycles edges n flags → AreFlags ps ts n flags
    flags_are flags on i h = ((λ t. follows i i ((on.each i h).0 t)), (λ c. (on.each i h).1 (comes_round i h c)))

    edge_within : (e : Edge) → Contains edges e → graph.IsWithin n e
    edge_within e c =
        let s = so.only e.from e.to (record { edge = e; is_edge = c; from_a = refl; to_b = refl }) in
        record { from_node = s.0; to_node = stay e.from e.to s.1 }

    pub all_within : All (graph.IsWithin n) edges
    all_within k d l = edge_within (get_or edges k d) (contains_at edges k (get_or edges k d) d l refl)

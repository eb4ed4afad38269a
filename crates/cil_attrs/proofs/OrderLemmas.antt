-- Sets that depend on themselves, by the edges of a graph; and the order by its ranks.
use Rattle.std.proofs.Common.{◌≡◌, ◌↔◌, ℕ, zero, suc, ◌<◌, Bool, true, false, if◌then◌else◌, List, [], ◌∷◌, length, get_or, refl, sym, ◌∙◌, ap, subst, inl, inr, arith}
use Rattle.std.specs.Prelude.{All, Contains, IsPermutation, Option, Some, None, slice_get}
use Rattle.std.specs.List.Sorted.{IsNonDecreasingBy}
use Rattle.std.specs.Option.{option_map_or}
use Rattle.std.proofs.lemmas.List.Sorted.{Contains-permutation, IsPermutation-sym}
use Rattle.cil_base.specs.Lists.{contains_cases, contains_here, contains_none}
use Rattle.cil_base.specs.MadeLists.{contains_flat, from_flat}
use Rattle.cil_base.specs.Places.{contains_at, get_contains, get_so, in_range}
use Rattle.cil_settle.specs.declared.edge.Edge.{Edge}
use Rattle.cil_settle.specs.Cycles.{AreOnCycles, Fall, HasNoCycle, IsWithin, Leads, Reaches}
use Rattle.cil_settle.specs.Cycles as paths
use Rattle.cil_attrs.specs.declared.evaluator.Held.{Held}
use Rattle.cil_attrs.specs.declared.evaluator.Held.TheVariants.{Set}
use Rattle.cil_attrs.specs.declared.making.Given.{Given}
use Rattle.cil_attrs.specs.Made.{AreInOrder, AreSetsAt}
use Rattle.cil_attrs.specs.Order.{Depends, FallFor, IsAcyclic, Names, at_once, edge_to, edges_by, edges_in, further, is_set, is_set_at}

set_within : (helds : List Held) (d : ℕ) → is_set_at helds d ≡ true → d < length helds
set_within helds d e = by (slice_get helds d) refl e where
  by : (r : Option Held) → slice_get helds d ≡ r → option_map_or is_set r false ≡ true → d < length helds
  by None at t = absurd (let f : false ≡ true = t in cc)
  by (Some h) at t = in_range helds d h at

flag_within : (flags : List Bool) (d : ℕ) → get_or flags d false ≡ true → d < length flags
flag_within [] d e = absurd (let f : false ≡ true = e in cc)
flag_within (b ∷ bs) zero e = omega arith
flag_within (b ∷ bs) (suc d) e = let l = flag_within bs d e in omega (arith, l)

-- an edge to an entry is that of a set
of_edge : (helds : List Held) (a : ℕ) (e : Edge) (r : Option ℕ) → Contains (edge_to helds a r) e → (r ≡ Some e.to) × (a ≡ e.from) × (is_set_at helds e.to ≡ true)
of_edge helds a e None c = absurd (contains_none e c)
of_edge helds a e (Some to) c = by (is_set_at helds to) refl c where
  by : (b : Bool) → is_set_at helds to ≡ b → Contains (if b then record { from = a; to = to; counted = false } ∷ [] else []) e → (Some to ≡ Some e.to) × (a ≡ e.from) × (is_set_at helds e.to ≡ true)
  by false f d = absurd (contains_none e d)
  by true t d = elim (contains_cases e (record { from = a; to = to; counted = false }) [] d) [
    | inl same ↦ (ap (λ (x : Edge). Some x.to) same, ap (λ (x : Edge). x.from) same, ap (λ (x : Edge). is_set_at helds x.to) (sym same) ∙ t)
    | inr none ↦ absurd (contains_none e none)
  ]

module _ (helds : List Held) (xs : List Given) (es : List Edge) (same : IsPermutation (edges_in helds xs) es) (sets : AreSetsAt helds xs) where
  edge_names : (e : Edge) → Contains es e → Names helds xs e.from e.to
  edge_names e c =
      let (x, is_x, by_x) = from_flat (edges_by helds) xs e (Contains-permutation es (edges_in helds xs) e (IsPermutation-sym (edges_in helds xs) es same) c) in
      let (r, is_r, by_r) = from_flat (edge_to helds x.set) x.words.now e by_x in
      let (means, from, is) = of_edge helds x.set e r by_r in
      record { given = x; is_given = is_x; set = from; word = subst (Contains x.words.now) means is_r; is_set = is }

  leads_names : (a b : ℕ) → Leads es a b → Names helds xs a b
  leads_names a b l =
      let n = edge_names l.edge l.is_edge in
      record { given = n.given; is_given = n.is_given; set = n.set ∙ l.from_a; word = subst (λ u. Contains n.given.words.now (Some u)) l.to_b n.word; is_set = subst (λ u. is_set_at helds u ≡ true) l.to_b n.is_set }

  names_leads : (a b : ℕ) → Names helds xs a b → Leads es a b
  names_leads a b n =
      let it : Edge = record { from = n.given.set; to = b; counted = false } in
      let there : Contains (edge_to helds n.given.set (Some b)) it = subst (λ q. Contains (if q then it ∷ [] else []) it) (sym n.is_set) (contains_here it []) in
      record {
        edge = it;
        is_edge = Contains-permutation (edges_in helds xs) es it same (contains_flat (edges_by helds) xs n.given it n.is_given (contains_flat (edge_to helds n.given.set) n.given.words.now (Some b) it n.word there));
        from_a = n.set;
        to_b = refl;
      }

  reaches_depends : (a b : ℕ) → Reaches es a b → Depends helds xs a b
  reaches_depends a b (paths.at_once u v l) = at_once u v (leads_names u v l)
  reaches_depends a b (paths.further u v w l r) = further u v w (leads_names u v l) (reaches_depends v w r)

  edge_within : (e : Edge) → Contains es e → IsWithin (length helds) e
  edge_within e c =
      let n = edge_names e c in
      let (members, at) = sets n.given n.is_given in
      record { from_node = subst (λ u. u < length helds) n.set (in_range helds n.given.set (Set members) at); to_node = set_within helds e.to n.is_set }

  pub all_within : All (IsWithin (length helds)) es
  all_within k d l = edge_within (get_or es k d) (contains_at es k (get_or es k d) d l refl)

  start_within : (a b : ℕ) → Reaches es a b → a < length helds
  start_within a b (paths.at_once u v l) = subst (λ i. i < length helds) l.from_a (edge_within l.edge l.is_edge).from_node
  start_within a b (paths.further u v w l r) = subst (λ i. i < length helds) l.from_a (edge_within l.edge l.is_edge).from_node

  depends_reaches : (a b : ℕ) → Depends helds xs a b → Reaches es a b
  depends_reaches a b (at_once u v n) = paths.at_once u v (names_leads u v n)
  depends_reaches a b (further u v w n d) = paths.further u v w (names_leads u v n) (depends_reaches v w d)

  -- the flags of a graph are those of sets
  pub on_cycle : (flags : List Bool) → AreOnCycles es (length helds) flags → (d : ℕ) → (get_or flags d false ≡ true) ↔ Depends helds xs d d
  on_cycle flags on d = (
    λ t. reaches_depends d d ((on.each d (subst (λ n. d < n) on.len (flag_within flags d t))).0 t),
    λ r. let p = depends_reaches d d r in (on.each d (start_within d d p)).1 p,
  )

  pub ranks_fall : (ranks : List ℕ) → (HasNoCycle es → Fall es ranks) → IsAcyclic helds xs → FallFor helds xs ranks
  ranks_fall ranks fall none a b n = fall (λ v r. none v (reaches_depends v v r)) a b (names_leads a b n)

-- where ranks fall, statements in their order name only what is made before
pub ranks_order : (helds : List Held) (xs : List Given) → AreSetsAt helds xs → (ranks : List ℕ) (ordered : List Given) → FallFor helds xs ranks
    → IsNonDecreasingBy (λ (x : Given). get_or ranks x.set 0) ordered → IsPermutation xs ordered → AreInOrder ordered
ranks_order helds xs sets ranks ordered fall rising permuted i j x y at_i at_j le c =
    let is_x = Contains-permutation ordered xs x (IsPermutation-sym xs ordered permuted) (get_contains ordered i x at_i) in
    let is_y = Contains-permutation ordered xs y (IsPermutation-sym xs ordered permuted) (get_contains ordered j y at_j) in
    let (members, at) = sets y is_y in
    let lower : get_or ranks y.set 0 < get_or ranks x.set 0 = fall x.set y.set (record {
      given = x;
      is_given = is_x;
      set = refl;
      word = c;
      is_set = ap (λ h. option_map_or is_set h false) at;
    }) in
    let rises = rising i j x le (in_range ordered j y at_j) in
    let here = ap (λ (z : Given). get_or ranks z.set 0) (get_so ordered i x x at_i) in
    let there = ap (λ (z : Given). get_or ranks z.set 0) (get_so ordered j y x at_j) in
    omega (arith, lower, rises, here, there)

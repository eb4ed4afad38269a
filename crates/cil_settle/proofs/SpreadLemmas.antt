-- Masks that flow along edges: what one mask adds to one node, to all to which a node leads, and the walk.
use Rattle.std.specs.Prelude.{◌⊎◌, Contains, IsBitSet, bit_or, drop, map, set}
use Rattle.std.proofs.Common.{◌≡◌, ℕ, suc, ◌+◌, ◌-◌, ◌*◌, ◌<◌, ◌≤◌, List, [], ◌∷◌, ◌++◌, length, take, get_or, refl, sym, ap, subst, ◌∙◌, inl, inr, arith}
use Rattle.std.proofs.lemmas.Bool.{cases_eq}
use Rattle.std.proofs.lemmas.List.{append_assoc, append-nil, get_or-set_other, get_or-set_same, length-set, take_more, map-append, take_all}
use Rattle.std.proofs.lemmas.List.Elements.{Contains-append_left, Contains-append_right, Contains-append_cases}
use Rattle.std.proofs.lemmas.List.Sums.{sum_by-append, sum_by-set}
use Rattle.std.proofs.lemmas.Nat.{le_or_l}
use Rattle.std.proofs.Math.ListN.{get_or-eq_default}
use Rattle.std.proofs.lemmas.List.{drop_more, drop-append-le, drop_all, get_or_default}
use Rattle.std.specs.Prelude.{◌==◌}
use Rattle.cil_base.specs.MadeLists.{contains_map, from_map}
use Rattle.cil_base.specs.Searches.{kept_is, kept_into}
use Rattle.cil_base.specs.Among.{equal_number}
use Rattle.cil_base.specs.Lists.{contains_cases, contains_here, contains_none}
use Rattle.cil_settle.specs.declared.edge.Edge.{Edge}
use Rattle.cil_settle.proofs.BitLemmas.{none_set, set_in_either}
use Rattle.cil_settle.proofs.ReachLemmas.{equal_test}
use Rattle.cil_settle.specs.Spread.{AreSmall, Flows, begins, goes_on, IsBegun, IsBegunAt, IsJoined, IsPart, IsSpread, IsSpreading, mask_at, most_masks, total}
use Rattle.cil_settle.specs.Walk.{leaving}

-- ---- one node

grows : (a b : ℕ) → (a ≡ b → ⊥) → a ≤ b → a < b
grows a b differ most = grind arith

-- nothing changes where the node has the mask
pub joined_same : (masks queue : List ℕ) (to mask : ℕ) → bit_or (mask_at masks to) mask ≡ mask_at masks to → IsJoined masks queue (to ∷ []) mask masks queue
joined_same masks queue to mask same = record {
  more = [];
  behind = sym (append-nil queue);
  len = refl;
  above = λ v bit b. b;
  changed = λ v. inl refl;
  carried = λ u c bit b. elim (contains_cases u to [] c) [
    | inl e ↦ subst (λ k. IsBitSet (mask_at masks k) bit) e (subst (λ m. IsBitSet m bit) same ((set_in_either (mask_at masks to) mask bit).1 (inr b)))
    | inr n ↦ absurd (contains_none u n)
  ];
  only = λ v bit b. inl b;
  within = λ v c. absurd (contains_none v c);
  room = omega arith;
  small = λ s. s;
}

module _ (masks queue : List ℕ) (to mask : ℕ) (within : to < length masks) (differ : bit_or (mask_at masks to) mask ≡ mask_at masks to → ⊥) (small : bit_or (mask_at masks to) mask < most_masks) where
  abbrev union : ℕ
  union = bit_or (mask_at masks to) mask

  abbrev new : List ℕ
  new = set masks to union

  here : mask_at new to ≡ union
  here = get_or-set_same masks to union 0 within

  elsewhere : (v : ℕ) → (v ≡ to → ⊥) → mask_at new v ≡ mask_at masks v
  elsewhere v other = get_or-set_other masks to v union 0 other

  pub joined_more : IsJoined masks queue (to ∷ []) mask new (queue ++ to ∷ [])
  unfolding total
  joined_more = record {
    more = to ∷ [];
    behind = refl;
    len = length-set masks to union;
    above = λ v bit b. elim (cases_eq v to) [
      | inl e ↦ subst (λ k. IsBitSet (mask_at new k) bit) (sym e) (subst (λ m. IsBitSet m bit) (sym here) ((set_in_either (mask_at masks to) mask bit).1 (inl (subst (λ k. IsBitSet (mask_at masks k) bit) e b))))
      | inr other ↦ subst (λ m. IsBitSet m bit) (sym (elsewhere v other)) b
    ];
    changed = λ v. elim (cases_eq v to) [
      | inl e ↦ inr (subst (λ k. Contains (k ∷ []) v) e (contains_here v []))
      | inr other ↦ inl (elsewhere v other)
    ];
    carried = λ u c bit b. elim (contains_cases u to [] c) [
      | inl e ↦ subst (λ k. IsBitSet (mask_at new k) bit) e (subst (λ m. IsBitSet m bit) (sym here) ((set_in_either (mask_at masks to) mask bit).1 (inr b)))
      | inr n ↦ absurd (contains_none u n)
    ];
    only = λ v bit b. elim (cases_eq v to) [
      | inl e ↦
          let at : IsBitSet (mask_at new to) bit = subst (λ k. IsBitSet (mask_at new k) bit) e b in
          elim ((set_in_either (mask_at masks to) mask bit).0 (subst (λ m. IsBitSet m bit) here at)) [
            | inl old ↦ inl (subst (λ k. IsBitSet (mask_at masks k) bit) (sym e) old)
            | inr added ↦ inr (subst (λ k. Contains (k ∷ []) v) e (contains_here v []), added)
          ]
      | inr other ↦ inl (subst (λ m. IsBitSet m bit) (elsewhere v other) b)
    ];
    within = λ v c. elim (contains_cases v to [] c) [ inl e ↦ subst (λ k. k < length masks) e within | inr n ↦ absurd (contains_none v n) ];
    room =
        let sums = sum_by-set (λ m. m) masks to union 0 within in
        let more = grows (mask_at masks to) union (λ e. differ (sym e)) (le_or_l (mask_at masks to) mask) in omega (arith, sums, more);
    small = λ all v. elim (cases_eq v to) [
      | inl e ↦ subst (λ k. mask_at new k < most_masks) (sym e) (subst (λ m. m < most_masks) (sym here) small)
      | inr other ↦ subst (λ m. m < most_masks) (sym (elsewhere v other)) (all v)
    ];
  }

-- the same, as the code has it
pub join_none : (masks queue : List ℕ) (to mask old : ℕ) → old ≡ mask_at masks to → bit_or old mask ≡ old → IsJoined masks queue (to ∷ []) mask masks queue
join_none masks queue to mask old is same = joined_same masks queue to mask (subst (λ k. bit_or k mask ≡ k) is same)

pub join_some : (masks queue longer : List ℕ) (to mask old : ℕ) → to < length masks → old ≡ mask_at masks to → (bit_or old mask ≡ old → ⊥)
    → ((i d : ℕ) → i < length (set masks to (bit_or old mask)) → get_or (set masks to (bit_or old mask)) i d < most_masks) → longer ≡ queue ++ to ∷ []
    → IsJoined masks queue (to ∷ []) mask (set masks to (bit_or old mask)) longer
join_some masks queue longer to mask old within is differ small push =
    subst (λ q. IsJoined masks queue (to ∷ []) mask (set masks to (bit_or old mask)) q) (sym push)
    (subst (λ k. IsJoined masks queue (to ∷ []) mask (set masks to (bit_or k mask)) (queue ++ to ∷ [])) (sym is)
    (joined_more masks queue to mask within (subst (λ k. bit_or k mask ≡ k → ⊥) is differ) (subst (λ k. bit_or k mask < most_masks) is
    (subst (λ n. n < most_masks) (get_or-set_same masks to (bit_or old mask) 0 within) (small to 0 (let e = length-set masks to (bit_or old mask) in omega (arith, e, within)))))))

-- ---- several nodes

pub joined_both : (masks queue : List ℕ) (ts us : List ℕ) (mask : ℕ) (grown longer last longest : List ℕ) → IsJoined masks queue ts mask grown longer → IsJoined grown longer us mask last longest
    → IsJoined masks queue (ts ++ us) mask last longest
joined_both masks queue ts us mask grown longer last longest a b = record {
  more = a.more ++ b.more;
  behind = b.behind ∙ ap (λ q. q ++ b.more) a.behind ∙ append_assoc queue a.more b.more;
  len = b.len ∙ a.len;
  above = λ v bit s. b.above v bit (a.above v bit s);
  changed = λ v. elim (b.changed v) [
    | inl same ↦ elim (a.changed v) [ inl e ↦ inl (same ∙ e) | inr c ↦ inr (Contains-append_left a.more b.more v c) ]
    | inr c ↦ inr (Contains-append_right a.more b.more v c)
  ];
  carried = λ u c bit s. elim (Contains-append_cases ts us u c) [ inl d ↦ b.above u bit (a.carried u d bit s) | inr d ↦ b.carried u d bit s ];
  only = λ v bit s. elim (b.only v bit s) [
    | inl one ↦ elim (a.only v bit one) [ inl old ↦ inl old | inr d ↦ inr (Contains-append_left ts us v d.0, d.1) ]
    | inr d ↦ inr (Contains-append_right ts us v d.0, d.1)
  ];
  within = λ v c. elim (Contains-append_cases a.more b.more v c) [ inl d ↦ a.within v d | inr d ↦ subst (λ n. v < n) a.len (b.within v d) ];
  room = let l = length_both a.more b.more in let x = a.room in let y = b.room in omega (arith, l, x, y);
  small = λ s. b.small (a.small s);
}
  where
    length_both : (xs ys : List ℕ) → length (xs ++ ys) ≡ length xs + length ys
    length_both xs ys = Rattle.std.proofs.lemmas.List.length-append xs ys

pub joined_next : (masks queue : List ℕ) (edges : List Edge) (i : ℕ) (d : Edge) (mask : ℕ) (grown longer last longest : List ℕ) → i < length edges → IsJoined masks queue (map (λ (e : Edge). e.to) (take i edges)) mask grown longer
    → IsJoined grown longer ((get_or edges i d).to ∷ []) mask last longest → IsJoined masks queue (map (λ (e : Edge). e.to) (take (i + 1) edges)) mask last longest
joined_next masks queue edges i d mask grown longer last longest l a b =
    let one : map (λ (e : Edge). e.to) (take (i + 1) edges) ≡ map (λ (e : Edge). e.to) (take i edges) ++ (get_or edges i d).to ∷ [] =
    ap (map (λ (e : Edge). e.to)) (take_more edges i d l) ∙ map-append (λ (e : Edge). e.to) (take i edges) (get_or edges i d ∷ []) in
    subst (λ ts. IsJoined masks queue ts mask last longest) (sym one) (joined_both masks queue _ _ mask grown longer last longest a b)

pub joined_whole : (masks queue : List ℕ) (edges : List Edge) (i : ℕ) (mask : ℕ) (grown longer : List ℕ) → length edges ≤ i → IsJoined masks queue (map (λ (e : Edge). e.to) (take i edges)) mask grown longer
    → IsJoined masks queue (map (λ (e : Edge). e.to) edges) mask grown longer
joined_whole masks queue edges i mask grown longer l a = subst (λ es. IsJoined masks queue (map (λ (e : Edge). e.to) es) mask grown longer) (take_all i edges l) a

-- ---- the walk

total_most : (masks : List ℕ) → AreSmall masks → total masks ≤ length masks * most_masks
unfolding total
total_most [] small = omega arith
total_most (m ∷ ms) small =
    let first : m < most_masks = small 0 in
    let rest = total_most ms (λ v. small (suc v)) in
    let step = Rattle.std.proofs.lemmas.List.Sums.sum_by-cons (λ x. x) m ms in omega (arith, first, rest, step)

-- the walk begins
pub spread_begins : (edges : List Edge) (start queue : List ℕ) → IsBegun start queue (length start) → IsSpreading edges start start queue 0
spread_begins edges start queue begun = record {
  len = refl;
  above = λ v bit b. b;
  done = λ e c. elim (below e.from) [
    | inl none ↦ inr (λ bit b. absurd (none_set bit (subst (λ m. IsBitSet m bit) none b)))
    | inr there ↦ inl (subst (λ q. Contains q e.from) (sym (first queue)) there)
  ];
  only = λ v bit b. begins v bit b;
  within = begun.within;
  small = λ v. elim (inside v (length start)) [ inl l ↦ begun.small v l | inr over ↦ subst (λ m. m < most_masks) (sym (beyond start v over)) (omega arith) ];
}
  where
    inside : (v n : ℕ) → (v < n) ⊎ (n ≤ v)
    inside v n = grind arith

    beyond : (xs : List ℕ) (v : ℕ) → length xs ≤ v → mask_at xs v ≡ 0
    beyond xs v over = get_or-eq_default xs 0 over

    first : (q : List ℕ) → drop 0 q ≡ q
    first [] = refl
    first (x ∷ xs) = refl

    below : (v : ℕ) → (mask_at start v ≡ 0) ⊎ Contains queue v
    below v = elim (inside v (length start)) [ inl l ↦ begun.some v l | inr over ↦ inl (beyond start v over) ]

pub spread_goes_on : (edges : List Edge) (start masks queue : List ℕ) (next v mask : ℕ) (row : List Edge) (grown longer : List ℕ) → next < length queue → IsSpreading edges start masks queue next
    → v ≡ get_or queue next 0 → mask ≡ mask_at masks v → row ≡ leaving v edges → IsJoined masks queue (map (λ (e : Edge). e.to) row) mask grown longer → IsSpreading edges start grown longer (next + 1)
spread_goes_on edges start masks queue next v mask row grown longer l so_far is_next is_mask is_row joined = record {
  len = joined.len ∙ so_far.len;
  above = λ u bit b. joined.above u bit (so_far.above u bit b);
  done = λ e c. elim (joined.changed e.from) [
    | inr more ↦ inl (later e.from (inr more))
    | inl same ↦ elim (cases_eq e.from v) [
      | inl leaves ↦ inr (λ bit b.
          joined.carried e.to (targets e c leaves) bit
          (subst (λ m. IsBitSet m bit) (same ∙ ap (mask_at masks) leaves ∙ sym is_mask) b))
      | inr other ↦ elim (so_far.done e c) [
        | inr kept ↦ inr (λ bit b. joined.above e.to bit (kept bit (subst (λ m. IsBitSet m bit) same b)))
        | inl coming ↦ elim (contains_cases e.from (get_or queue next 0) (drop (next + 1) queue) (subst (λ q. Contains q e.from) (drop_more queue next 0 l) coming)) [
          | inl is ↦ absurd (other (sym is ∙ sym is_next))
          | inr rest ↦ inl (later e.from (inl rest))
        ]
      ]
    ]
  ];
  only = λ u bit b. elim (joined.only u bit b) [
    | inl old ↦ so_far.only u bit old
    | inr d ↦
        let (e, ce, te) = from_map (λ (x : Edge). x.to) row u d.0 in
        let found = kept_is (λ (x : Edge). x.from == v) edges e (subst (λ r. Contains r e) is_row ce) in
        let had : Flows edges start e.from bit = subst (λ k. Flows edges start k bit) (sym (equal_number e.from v found.1)) (so_far.only v bit (subst (λ m. IsBitSet m bit) is_mask d.1)) in
        subst (λ k. Flows edges start k bit) te (goes_on e bit found.0 had)
  ];
  within = λ u c. elim (Contains-append_cases queue joined.more u (subst (λ q. Contains q u) joined.behind c)) [
    | inl d ↦ subst (λ n. u < n) (sym joined.len) (so_far.within u d)
    | inr d ↦ subst (λ n. u < n) (sym joined.len) (joined.within u d)
  ];
  small = joined.small so_far.small;
}
  where
    later : (u : ℕ) → Contains (drop (next + 1) queue) u ⊎ Contains joined.more u → Contains (drop (next + 1) longer) u
    later u c =
        subst (λ q. Contains q u) (sym (ap (drop (next + 1)) joined.behind ∙ drop-append-le (next + 1) queue joined.more (omega (arith, l))))
        (elim c [ inl a ↦ Contains-append_left (drop (next + 1) queue) joined.more u a | inr a ↦ Contains-append_right (drop (next + 1) queue) joined.more u a ])

    targets : (e : Edge) → Contains edges e → e.from ≡ v → Contains (map (λ (x : Edge). x.to) row) e.to
    targets e c leaves = contains_map (λ (x : Edge). x.to) row e (subst (λ r. Contains r e) (sym is_row) (kept_into (λ (x : Edge). x.from == v) edges e c (equal_test e.from v leaves)))

pub spread_ends : (edges : List Edge) (start masks queue : List ℕ) (next : ℕ) → length queue ≤ next → IsSpreading edges start masks queue next → IsSpread edges start masks
spread_ends edges start masks queue next over so_far = record {
  len = so_far.len;
  bits = λ v bit. (so_far.only v bit, has v bit);
}
  where
    along : (e : Edge) → Contains edges e → IsPart (mask_at masks e.from) (mask_at masks e.to)
    along e c = elim (so_far.done e c) [
      | inl coming ↦ absurd (contains_none e.from (subst (λ q. Contains q e.from) (drop_all next queue over) coming))
      | inr kept ↦ kept
    ]

    has : (v bit : ℕ) → Flows edges start v bit → IsBitSet (mask_at masks v) bit
    has v bit (begins u k b) = so_far.above u k b
    has v bit (goes_on e k c f) = along e c k (has e.from k f)

-- ---- the nodes that start with some bit

pub begun_some : (masks queue : List ℕ) (n m : ℕ) → n < length masks → m ≡ get_or masks n 0 → m < most_masks → IsBegun masks queue n → IsBegun masks (queue ++ n ∷ []) (n + 1)
begun_some masks queue n m l is few begun = record {
  some = λ v b. elim (before v n (omega arith)) [
    | inl under ↦ elim (begun.some v under) [ inl none ↦ inl none | inr there ↦ inr (Contains-append_left queue (n ∷ []) v there) ]
    | inr same ↦ inr (subst (λ k. Contains (queue ++ n ∷ []) k) (sym same) (Contains-append_right queue (n ∷ []) n (contains_here n [])))
  ];
  within = λ v c. elim (Contains-append_cases queue (n ∷ []) v c) [
    | inl d ↦ begun.within v d
    | inr d ↦ elim (contains_cases v n [] d) [ inl e ↦ subst (λ k. k < length masks) e l | inr none ↦ absurd (contains_none v none) ]
  ];
  small = λ v b. elim (before v n (omega arith)) [ inl under ↦ begun.small v under | inr same ↦ subst (λ k. mask_at masks k < most_masks) (sym same) (subst (λ k. k < most_masks) is few) ];
}
  where
    before : (v n : ℕ) → v < n + 1 → (v < n) ⊎ (v ≡ n)
    before v n b = grind arith

pub begun_none : (masks queue : List ℕ) (n m : ℕ) → n < length masks → m ≡ get_or masks n 0 → m ≡ 0 → IsBegun masks queue n → IsBegun masks queue (n + 1)
begun_none masks queue n m l is zero_ begun = record {
  some = λ v b. elim (before v n (omega arith)) [ inl under ↦ begun.some v under | inr same ↦ inl (ap (mask_at masks) same ∙ sym is ∙ zero_) ];
  within = begun.within;
  small = λ v b. elim (before v n (omega arith)) [ inl under ↦ begun.small v under | inr same ↦ subst (λ k. mask_at masks k < most_masks) (sym same) (let e : get_or masks n 0 ≡ 0 = sym is ∙ zero_ in omega (arith, e)) ];
}
  where
    before : (v n : ℕ) → v < n + 1 → (v < n) ⊎ (v ≡ n)
    before v n b = grind arith

pub begun_more : (masks queue longer : List ℕ) (n m : ℕ) → n < length masks → m ≡ get_or masks n 0 → m < most_masks → IsBegunAt queue n m longer → IsBegun masks queue n → IsBegun masks longer (n + 1)
begun_more masks queue longer n m l is few (inl a) begun =
    subst (λ q. IsBegun masks q (n + 1)) (sym a.1) (begun_none masks queue n m l is a.0 begun)
begun_more masks queue longer n m l is few (inr e) begun =
    subst (λ q. IsBegun masks q (n + 1)) (sym e) (begun_some masks queue n m l is few begun)

-- what is read at a place
pub read_at : (xs : List ℕ) (i x : ℕ) → x ≡ get_or xs i x → i < length xs → x ≡ get_or xs i 0
read_at xs i x e l = e ∙ get_or_default xs i x 0 l

-- ---- the measure

-- what is left falls: each node that was put behind has a bit more, and there is room for so many bits
pub falls : (masks grown queue longer more : List ℕ) (next : ℕ) → next < length queue → longer ≡ queue ++ more → length grown ≡ length masks → AreSmall grown → length more + total masks ≤ total grown
    → (length grown * most_masks - total grown) + (length longer - (next + 1)) < (length masks * most_masks - total masks) + (length queue - next)
falls masks grown queue longer more next l behind len small room =
    let most = total_most grown small in
    let long : length longer ≡ length queue + length more = ap length behind ∙ Rattle.std.proofs.lemmas.List.length-append queue more in
    let same : length grown * most_masks ≡ length masks * most_masks = ap (λ n. n * most_masks) len in
    omega (arith, most, long, same, room, l)

-- A search for each node: what it says of cycles and of ranks.
use Rattle.std.proofs.Common.{◌≡◌, ◌⊎◌, ℕ, zero, suc, ◌+◌, ◌<◌, ◌≤◌, Bool, true, false, cond, List, [], ◌∷◌, ◌++◌, length, get_or, set, take, refl, sym, ◌∙◌, ap, subst, inl, inr, arith}
use Rattle.std.specs.Prelude.{All}
use Rattle.std.specs.List.{count_by}
use Rattle.std.proofs.lemmas.List.{get_or-set_other, get_or-set_same, length-set, take_more, take_all}
use Rattle.std.proofs.lemmas.List.Elements.{All-contains, Contains-append_left, Contains-push, Contains-push_cases}
use Rattle.cil_base.specs.Lists.{contains_none}
use Rattle.cil_base.specs.Counts.{count_cons}
use Rattle.cil_settle.specs.declared.edge.Edge.{Edge}
use Rattle.cil_settle.specs.Cycles.{AreOnCycles, Fall, HasNoCycle, IsWithin, Leads, Reaches, at_once, further}
use Rattle.cil_settle.specs.Plain.{AreBehind, AreCounted, AreStartsOf, is_set}
use Rattle.cil_settle.specs.Reached.{AreReached, AreStarts, IsReached, IsStart}

-- ---- starts

pub no_starts : (nodes node : ℕ) (need : List ℕ) → length need ≡ nodes → ((v : ℕ) → v < nodes → get_or need v 0 ≡ 1) → AreStartsOf [] nodes node need
no_starts nodes node need len ones = record {
  len = len;
  few = λ v l. let o = ones v l in omega (arith, o);
  each = λ v l. (λ e. absurd (let o = ones v l in omega (arith, o, e)), λ (h : Leads [] node v). absurd (contains_none h.edge h.is_edge));
}

lead_later : (es : List Edge) (e : Edge) (a b : ℕ) → Leads es a b → Leads (es ++ e ∷ []) a b
lead_later es e a b l = record { edge = l.edge; is_edge = Contains-append_left es (e ∷ []) l.edge l.is_edge; from_a = l.from_a; to_b = l.to_b }

lead_cases : (es : List Edge) (e : Edge) (a b : ℕ) → Leads (es ++ e ∷ []) a b → Leads es a b ⊎ ((e.from ≡ a) × (e.to ≡ b))
lead_cases es e a b l = elim (Contains-push_cases es e l.edge l.is_edge) [
  | inl c ↦ inl (record { edge = l.edge; is_edge = c; from_a = l.from_a; to_b = l.to_b })
  | inr s ↦ inr (ap (λ (x : Edge). x.from) s ∙ l.from_a, ap (λ (x : Edge). x.to) s ∙ l.to_b)
]

pub other_start : (es : List Edge) (e : Edge) (nodes node : ℕ) (need : List ℕ) → (e.from ≡ node → ⊥) → AreStartsOf es nodes node need → AreStartsOf (es ++ e ∷ []) nodes node need
other_start es e nodes node need n s = record {
  len = s.len;
  few = s.few;
  each = λ v l. (λ z. lead_later es e node v ((s.each v l).0 z), λ h. elim (lead_cases es e node v h) [ inl k ↦ (s.each v l).1 k | inr k ↦ absurd (n k.0) ]);
}

pub same_or : (a b : ℕ) → (a ≡ b) ⊎ (a ≡ b → ⊥)
same_or a b = elim (three a b) [ inl e ↦ inl e | inr l ↦ inr (λ e. elim l [ inl m ↦ omega (arith, e, m) | inr m ↦ omega (arith, e, m) ]) ] where
  three : (a b : ℕ) → (a ≡ b) ⊎ ((a < b) ⊎ (b < a))
  three a b = grind arith

pub one_start : (es : List Edge) (e : Edge) (nodes node : ℕ) (need : List ℕ) → e.from ≡ node → e.to < nodes → AreStartsOf es nodes node need → AreStartsOf (es ++ e ∷ []) nodes node (set need e.to 0)
one_start es e nodes node need f w s = record {
  len = length-set need e.to 0 ∙ s.len;
  few = λ v l. elim (same_or v e.to) [ inl h ↦ let z = here v h in omega (arith, z) | inr d ↦ let o = there v d in let k = s.few v l in omega (arith, o, k) ];
  each = λ v l. elim (same_or v e.to) [
    | inl h ↦ (λ z. record { edge = e; is_edge = Contains-push es e; from_a = f; to_b = sym h }, λ k. here v h)
    | inr d ↦ (λ z. lead_later es e node v ((s.each v l).0 (sym (there v d) ∙ z)), λ k. there v d ∙ elim (lead_cases es e node v k) [ inl m ↦ (s.each v l).1 m | inr m ↦ absurd (d (sym m.1)) ])
  ];
} where
  here : (v : ℕ) → v ≡ e.to → get_or (set need e.to 0) v 0 ≡ 0
  here v h = ap (λ k. get_or (set need e.to 0) k 0) h ∙ get_or-set_same need e.to 0 0 (let n = s.len in omega (arith, w, n))

  there : (v : ℕ) → (v ≡ e.to → ⊥) → get_or (set need e.to 0) v 0 ≡ get_or need v 0
  there v d = get_or-set_other need e.to v 0 0 d

pub start_taken : (edges : List Edge) (k : ℕ) (d : Edge) (nodes node : ℕ) (need : List ℕ) → k < length edges → AreStartsOf (take k edges ++ get_or edges k d ∷ []) nodes node need
    → AreStartsOf (take (k + 1) edges) nodes node need
start_taken edges k d nodes node need l s = subst (λ es. AreStartsOf es nodes node need) (sym (take_more edges k d l)) s

pub starts_all : (edges : List Edge) (k nodes node : ℕ) (need : List ℕ) → length edges ≤ k → AreStartsOf (take k edges) nodes node need → AreStartsOf edges nodes node need
starts_all edges k nodes node need l s = subst (λ es. AreStartsOf es nodes node need) (take_all k edges l) s

-- ---- one search

pub are_starts : (edges : List Edge) (nodes node : ℕ) (need : List ℕ) → AreStartsOf edges nodes node need → AreStarts need
are_starts edges nodes node need s v l = let n = s.len in s.few v (omega (arith, l, n))

pub behind_is : (edges : List Edge) (nodes node : ℕ) (need : List ℕ) (flags : List Bool) → All (IsWithin nodes) edges → AreStartsOf edges nodes node need → AreReached edges need flags → AreBehind edges nodes node flags
behind_is edges nodes node need flags all s r = record {
  len = r.len ∙ s.len;
  each = λ v l.
      let k : v < length need = let n = s.len in omega (arith, l, n) in (
        λ t. elim ((r.each v k).0 t) [
          | inl st ↦ at_once node v ((s.each v l).0 st.1)
          | inr p ↦ further node p.0 v (lead p.0 p.1) p.2
        ],
        λ p. (r.each v k).1 (path v l p),
      );
} where
  lead : (w : ℕ) → IsStart need w → Leads edges node w
  lead w st = (s.each w (let n = s.len in let m = st.0 in omega (arith, m, n))).0 st.1

  start : (w : ℕ) → w < nodes → Leads edges node w → IsStart need w
  start w l k = (let n = s.len in omega (arith, l, n), (s.each w l).1 k)

  path : (v : ℕ) → v < nodes → Reaches edges node v → IsReached edges need v
  path v l (at_once p q h) = inl (start v l h)
  path v l (further p x q h rest) = inr (x, start x (subst (λ k. k < nodes) h.to_b (All-contains (IsWithin nodes) edges h.edge all h.is_edge).to_node) h, rest)

-- ---- counts

count_less : (xs ys : List Bool) → length xs ≡ length ys → ((v : ℕ) → get_or xs v false ≡ true → get_or ys v false ≡ true) → count_by is_set xs ≤ count_by is_set ys
count_less [] [] e f = omega arith
count_less [] (y ∷ ys) e f = absurd (omega (arith, e))
count_less (x ∷ xs) [] e f = absurd (omega (arith, e))
count_less (x ∷ xs) (y ∷ ys) e f =
    let again = count_less xs ys (omega (arith, e)) (λ v. f (suc v)) in
    go x y (f 0) (count_cons is_set x xs) (count_cons is_set y ys) again where
      go : (a b : Bool) → (a ≡ true → b ≡ true) → count_by is_set (x ∷ xs) ≡ cond a 1 0 + count_by is_set xs → count_by is_set (y ∷ ys) ≡ cond b 1 0 + count_by is_set ys
          → count_by is_set xs ≤ count_by is_set ys → count_by is_set (x ∷ xs) ≤ count_by is_set (y ∷ ys)
      go true true f p q l = omega (arith, p, q, l)
      go true false f p q l = absurd (let c : false ≡ true = f refl in cc)
      go false true f p q l = omega (arith, p, q, l)
      go false false f p q l = omega (arith, p, q, l)

count_below : (xs ys : List Bool) (k : ℕ) → length xs ≡ length ys → ((v : ℕ) → get_or xs v false ≡ true → get_or ys v false ≡ true) → get_or xs k false ≡ false → get_or ys k false ≡ true
    → count_by is_set xs < count_by is_set ys
count_below [] [] k e f out within = absurd (let c : false ≡ true = within in cc)
count_below [] (y ∷ ys) k e f out within = absurd (omega (arith, e))
count_below (x ∷ xs) [] k e f out within = absurd (omega (arith, e))
count_below (x ∷ xs) (y ∷ ys) zero e f out within =
    let again = count_less xs ys (omega (arith, e)) (λ v. f (suc v)) in
    let p : count_by is_set (x ∷ xs) ≡ 0 + count_by is_set xs = count_cons is_set x xs ∙ ap (λ b. cond b 1 0 + count_by is_set xs) out in
    let q : count_by is_set (y ∷ ys) ≡ 1 + count_by is_set ys = count_cons is_set y ys ∙ ap (λ b. cond b 1 0 + count_by is_set ys) within in omega (arith, again, p, q)
count_below (x ∷ xs) (y ∷ ys) (suc k) e f out within =
    let again = count_below xs ys k (omega (arith, e)) (λ v. f (suc v)) out within in
    go x y (f 0) (count_cons is_set x xs) (count_cons is_set y ys) again where
      go : (a b : Bool) → (a ≡ true → b ≡ true) → count_by is_set (x ∷ xs) ≡ cond a 1 0 + count_by is_set xs → count_by is_set (y ∷ ys) ≡ cond b 1 0 + count_by is_set ys
          → count_by is_set xs < count_by is_set ys → count_by is_set (x ∷ xs) < count_by is_set (y ∷ ys)
      go true true f p q l = omega (arith, p, q, l)
      go true false f p q l = absurd (let c : false ≡ true = f refl in cc)
      go false true f p q l = omega (arith, p, q, l)
      go false false f p q l = omega (arith, p, q, l)

-- ---- all nodes

get_or_push : {X : Type 0} (xs : List X) (x d : X) (n k : ℕ) → length xs ≡ n → k < n → get_or (xs ++ x ∷ []) k d ≡ get_or xs k d
get_or_push [] x d n k e l = absurd (omega (arith, e, l))
get_or_push (y ∷ ys) x d n zero e l = refl
get_or_push (y ∷ ys) x d zero (suc k) e l = absurd (omega (arith, l))
get_or_push (y ∷ ys) x d (suc n) (suc k) e l = get_or_push ys x d n k (omega (arith, e)) (omega (arith, l))

get_or_last : {X : Type 0} (xs : List X) (x d : X) (k : ℕ) → length xs ≡ k → get_or (xs ++ x ∷ []) k d ≡ x
get_or_last [] x d zero e = refl
get_or_last [] x d (suc k) e = absurd (omega (arith, e))
get_or_last (y ∷ ys) x d zero e = absurd (omega (arith, e))
get_or_last (y ∷ ys) x d (suc k) e = get_or_last ys x d k (omega (arith, e))

length_last : {X : Type 0} (xs : List X) (x : X) → length (xs ++ x ∷ []) ≡ length xs + 1
length_last [] x = refl
length_last (y ∷ ys) x = let e = length_last ys x in omega (arith, e)

pub counted_none : (edges : List Edge) (nodes : ℕ) (on : List Bool) (ranks : List ℕ) → on ≡ [] → ranks ≡ [] → AreCounted edges nodes 0 on ranks
counted_none edges nodes on ranks e f = record { on_len = ap length e; ranks_len = ap length f; each = λ v l. absurd (omega (arith, l)) }

pub counted_more : (edges : List Edge) (nodes n count : ℕ) (on new_on : List Bool) (ranks new_ranks : List ℕ) (flag : Bool) (flags : List Bool) → AreCounted edges nodes n on ranks
    → AreBehind edges nodes n flags → flag ≡ get_or flags n false → count ≡ count_by is_set flags → new_on ≡ on ++ flag ∷ [] → new_ranks ≡ ranks ++ count ∷ []
    → AreCounted edges nodes (n + 1) new_on new_ranks
counted_more edges nodes n count on new_on ranks new_ranks flag flags c b f k e g = record {
  on_len = ap length e ∙ length_last on flag ∙ ap (λ m. m + 1) c.on_len;
  ranks_len = ap length g ∙ length_last ranks count ∙ ap (λ m. m + 1) c.ranks_len;
  each = λ v l. elim (last v n l) [
    | inl m ↦ let old = c.each v m in (old.0, old.1, ap (λ xs. get_or xs v false) e ∙ get_or_push on flag false n v c.on_len m ∙ old.2, ap (λ xs. get_or xs v 0) g ∙ get_or_push ranks count 0 n v c.ranks_len m ∙ old.3)
    | inr s ↦ (
      flags,
      subst (λ w. AreBehind edges nodes w flags) (sym s) b,
      ap (λ w. get_or new_on w false) s ∙ ap (λ xs. get_or xs n false) e ∙ get_or_last on flag false n c.on_len ∙ f ∙ ap (λ w. get_or flags w false) (sym s),
      ap (λ w. get_or new_ranks w 0) s ∙ ap (λ xs. get_or xs n 0) g ∙ get_or_last ranks count 0 n c.ranks_len ∙ k,
    )
  ];
} where
  last : (v n : ℕ) → v < n + 1 → (v < n) ⊎ (v ≡ n)
  last v n l = grind arith

module _ (edges : List Edge) (nodes : ℕ) (on : List Bool) (ranks : List ℕ) (c : AreCounted edges nodes nodes on ranks) where
  pub counted_on : AreOnCycles edges nodes on
  counted_on = record {
    len = c.on_len;
    each = λ v l. let r = c.each v l in (λ t. (r.1.each v l).0 (sym r.2 ∙ t), λ p. r.2 ∙ (r.1.each v l).1 p);
  }

  pub counted_falls : All (IsWithin nodes) edges → HasNoCycle edges → Fall edges ranks
  counted_falls all none a b l =
      let w = All-contains (IsWithin nodes) edges l.edge all l.is_edge in
      let a_node : a < nodes = subst (λ k. k < nodes) l.from_a w.from_node in
      let b_node : b < nodes = subst (λ k. k < nodes) l.to_b w.to_node in
      let ra = c.each a a_node in
      let rb = c.each b b_node in
      let less = count_below rb.0 ra.0 b (rb.1.len ∙ sym ra.1.len) (λ v t. (ra.1.each v (inside v rb.0 rb.1.len t)).1 (further a b v l ((rb.1.each v (inside v rb.0 rb.1.len t)).0 t)))
      (not_set (get_or rb.0 b false) (λ t. none b ((rb.1.each b b_node).0 t))) ((ra.1.each b b_node).1 (at_once a b l)) in
      let p = ra.3 in let q = rb.3 in omega (arith, less, p, q) where
        not_set : (x : Bool) → (x ≡ true → ⊥) → x ≡ false
        not_set true f = absurd (f refl)
        not_set false f = refl

        inside : (v : ℕ) (flags : List Bool) → length flags ≡ nodes → get_or flags v false ≡ true → v < nodes
        inside v flags e t = let l = set_inside flags v t in omega (arith, e, l) where
          set_inside : (flags : List Bool) (v : ℕ) → get_or flags v false ≡ true → v < length flags
          set_inside [] v t = absurd (let c : false ≡ true = t in cc)
          set_inside (f ∷ fs) zero t = omega arith
          set_inside (f ∷ fs) (suc v) t = let l = set_inside fs v t in omega (arith, l)

pub at_end : (edges : List Edge) (nodes n : ℕ) (on : List Bool) (ranks : List ℕ) → AreCounted edges nodes n on ranks → n ≡ nodes → AreCounted edges nodes nodes on ranks
at_end edges nodes n on ranks c e = subst (λ k. AreCounted edges nodes k on ranks) e c

-- What settles with one support each is what is reached.
use Rattle.std.proofs.Common.{◌≡◌, ◌↔◌, ℕ, zero, suc, ◌+◌, ◌<◌, ◌≤◌, ◌==◌, Bool, true, false, ◌&&◌, ◌||◌, cond, List, [], ◌∷◌, ◌++◌, length, get_or, take, refl, sym, ◌∙◌, ap, subst, inl, inr, arith}
use Rattle.std.specs.Prelude.{Contains, All}
use Rattle.std.proofs.lemmas.Bool.Decides.{nat_tests}
use Rattle.std.proofs.lemmas.List.Elements.{All-contains}
use Rattle.std.proofs.lemmas.List.{take_all, take_more}
use Rattle.cil_base.specs.Lists.{contains_here, contains_later, contains_cases, contains_none}
use Rattle.cil_settle.specs.declared.edge.Edge.{Edge}
use Rattle.cil_base.specs.Among.{among, among_push, either, equal_number}
use Rattle.cil_settle.specs.Settled.{IsSettled, hits, leads_within}
use Rattle.cil_settle.specs.Sums.{hits_cons, hits_none}
use Rattle.cil_settle.specs.Cycles.{Leads, Reaches, at_once, further}
use Rattle.cil_settle.specs.Reached.{AreReached, AreStarts, IsReached, IsStart}

pub path_more : (edges : List Edge) (a b c : ℕ) → Reaches edges a b → Leads edges b c → Reaches edges a c
path_more edges a b c (at_once p q l) m = further a b c l (at_once b c m)
path_more edges a b c (further p x q l r) m = further a x c l (path_more edges x b c r m)

pub path_join : (edges : List Edge) (a b c : ℕ) → Reaches edges a b → Reaches edges b c → Reaches edges a c
path_join edges a b c (at_once p q l) r = further a b c l r
path_join edges a b c (further p x q l m) r = further a x c l (path_join edges x b c m r)

both_true : (a b : Bool) → (a && b) ≡ true → (a ≡ true) × (b ≡ true)
both_true true b e = (refl, e)
both_true false b e = absurd (let c : false ≡ true = e in cc)

both_hold : (a b : Bool) → a ≡ true → b ≡ true → (a && b) ≡ true
both_hold true b e f = f
both_hold false b e f = absurd (let c : false ≡ true = e in cc)

pub equal_test : (a b : ℕ) → a ≡ b → (a == b) ≡ true
equal_test a b e = grind (arith, nat_tests)

-- a support that is lost comes from an edge
pub hits_found : (edges : List Edge) (out : List ℕ) (u : ℕ) → 0 < hits edges out u → (a : ℕ) × Leads edges a u × (among out a ≡ true)
hits_found [] out u l = absurd (let e = hits_none out u in omega (arith, l, e))
hits_found (e ∷ es) out u l = go ((e.to == u) && among out e.from) refl (hits_cons e es out u) (hits_found es out u) where
  go : (t : Bool) → ((e.to == u) && among out e.from) ≡ t → hits (e ∷ es) out u ≡ cond ((e.to == u) && among out e.from) 1 0 + hits es out u
      → (0 < hits es out u → (a : ℕ) × Leads es a u × (among out a ≡ true)) → (a : ℕ) × Leads (e ∷ es) a u × (among out a ≡ true)
  go true f h again = let b = both_true (e.to == u) (among out e.from) f in
      (e.from, record { edge = e; is_edge = contains_here e es; from_a = refl; to_b = equal_number e.to u b.0 }, b.1)
  go false f h again =
      let none : hits (e ∷ es) out u ≡ 0 + hits es out u = h ∙ ap (λ b. cond b 1 0 + hits es out u) f in
      let less : hits (e ∷ es) out u ≡ hits es out u = omega (arith, none) in
      let r = again (omega (arith, l, less)) in
      (r.0, record { edge = r.1.edge; is_edge = contains_later r.1.edge e es r.1.is_edge; from_a = r.1.from_a; to_b = r.1.to_b }, r.2)

-- an edge from what is out is a support that is lost
pub hits_some : (edges : List Edge) (out : List ℕ) (a u : ℕ) → Leads edges a u → among out a ≡ true → 0 < hits edges out u
hits_some edges out a u l h = go edges l.edge l.is_edge (both_hold (l.edge.to == u) (among out l.edge.from) (equal_test l.edge.to u l.to_b) (ap (among out) l.from_a ∙ h)) where
  go : (es : List Edge) (e : Edge) → Contains es e → ((e.to == u) && among out e.from) ≡ true → 0 < hits es out u
  go [] e c t = absurd (contains_none e c)
  go (x ∷ es) e c t = elim (contains_cases e x es c) [
    | inl s ↦ let h : hits (x ∷ es) out u ≡ 1 + hits es out u = hits_cons x es out u ∙ ap (λ b. cond b 1 0 + hits es out u) (ap (λ (y : Edge). (y.to == u) && among out y.from) s ∙ t) in
        omega (arith, h)
    | inr d ↦ let again = go es e d t in let h = hits_cons x es out u in omega (arith, again, h)
  ]

module _ (edges : List Edge) (need order : List ℕ) (settled : IsSettled edges need order) (starts : AreStarts need) where
  -- what goes out among the first is reached
  first_reached : (i : ℕ) → i ≤ length order → (v : ℕ) → among (take i order) v ≡ true → IsReached edges need v
  first_reached zero l v h = absurd (let e : false ≡ true = h in cc)
  first_reached (suc i) l v h =
      let node = get_or order i 0 in
      let number : suc i ≡ i + 1 = omega arith in
      let one_more : among (take (suc i) order) v ≡ (among (take i order) v || (node == v)) =
      ap (λ n. among (take n order) v) number ∙ ap (λ xs. among xs v) (take_more order i 0 (omega (arith, l))) ∙ among_push (take i order) node v in
      elim (either (among (take i order) v) (node == v) (sym one_more ∙ h)) [
        | inl before ↦ first_reached i (omega (arith, l)) v before
        | inr here ↦ subst (IsReached edges need) (equal_number node v here) (this (get_or need node 0) refl (first_reached i (omega (arith, l))))
      ] where
        this : (k : ℕ) → get_or need (get_or order i 0) 0 ≡ k → ((v : ℕ) → among (take i order) v ≡ true → IsReached edges need v) → IsReached edges need (get_or order i 0)
        this zero e again = inl (settled.within i (omega (arith, l)), e)
        this (suc k) e again =
            let each = settled.each i (omega (arith, l)) in
            let found = hits_found edges (take i order) (get_or order i 0) (omega (arith, each, e)) in
            inr (elim (again found.0 found.2) [
              | inl s ↦ (found.0, s, at_once found.0 (get_or order i 0) found.1)
              | inr r ↦ (r.0, r.1, path_more edges r.0 found.0 (get_or order i 0) r.2 found.1)
            ])

  pub out_reached : (v : ℕ) → among order v ≡ true → IsReached edges need v
  out_reached v h = first_reached (length order) (omega arith) v (subst (λ xs. among xs v ≡ true) (sym (take_all (length order) order (omega arith))) h)

  decided : (b : Bool) → (b ≡ false → ⊥) → b ≡ true
  decided true f = refl
  decided false f = absurd (f refl)

  start_out : (v : ℕ) → IsStart need v → among order v ≡ true
  start_out v s = decided (among order v) (λ no. let rest = settled.rest v s.0 no in let zero_need = s.1 in omega (arith, rest, zero_need))

  next_out : (a b : ℕ) → among order a ≡ true → Leads edges a b → b < length need → among order b ≡ true
  next_out a b h l within = decided (among order b) (λ no.
      let rest = settled.rest b within no in
      let some = hits_some edges order a b l h in
      let most = starts b within in omega (arith, rest, some, most))

  to_within : (a b : ℕ) → All (leads_within (length need)) edges → Leads edges a b → b < length need
  to_within a b all l = subst (λ k. k < length need) l.to_b (All-contains (leads_within (length need)) edges l.edge all l.is_edge)

  path_out : (a b : ℕ) → All (leads_within (length need)) edges → among order a ≡ true → Reaches edges a b → among order b ≡ true
  path_out a b all h (at_once p q l) = next_out a b h l (to_within a b all l)
  path_out a b all h (further p x q l r) = path_out x b all (next_out a x h l (to_within a x all l)) r

  pub out_is_reached : All (leads_within (length need)) edges → (v : ℕ) → (among order v ≡ true) ↔ IsReached edges need v
  out_is_reached all v = (out_reached v, λ r. elim r [ inl s ↦ start_out v s | inr p ↦ path_out p.0 v all (start_out p.0 p.1) p.2 ])

-- the flags of what goes out are those of what is reached
pub flags_reached : (edges : List Edge) (need order : List ℕ) (flags : List Bool) → IsSettled edges need order → AreStarts need → All (leads_within (length need)) edges
    → length flags ≡ length need → ((v : ℕ) → v < length need → get_or flags v false ≡ among order v) → AreReached edges need flags
flags_reached edges need order flags settled starts all len each = record {
  len = len;
  each = λ v l.
      let is = out_is_reached edges need order settled starts all v in
      (λ t. is.0 (sym (each v l) ∙ t), λ r. each v l ∙ is.1 r);
}

-- ---- flags

pub flag_push : (flags : List Bool) (v : ℕ) → get_or (flags ++ false ∷ []) v false ≡ get_or flags v false
flag_push [] zero = refl
flag_push [] (suc v) = refl
flag_push (f ∷ fs) zero = refl
flag_push (f ∷ fs) (suc v) = flag_push fs v

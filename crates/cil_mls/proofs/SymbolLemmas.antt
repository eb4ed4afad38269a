-- What is fixed of numbers is fixed of the things that they stand for.
use Rattle.std.specs.Prelude.{◌≡◌, ◌↔◌, ℕ, zero, suc, ◌<◌, List, [], ◌∷◌, map, Some, None, slice_get, Contains}
use Rattle.std.proofs.Common.{refl, sym, ◌∙◌, ap, subst}
use Rattle.cil_base.specs.Lists.{contains_here, contains_later}
use Rattle.cil_base.specs.Places.{get_contains}
use Rattle.cil_settle.specs.declared.edge.Edge.{Edge}
use Rattle.cil_mls.specs.Orders.{IsOrder, IsOneOrder}
use Rattle.cil_settle.specs.Cycles.{Leads}
use Rattle.cil_mls.specs.Edges.{IsBelow, IsFixed, IsNotFixed}
use Rattle.cil_mls.proofs.ChainLemmas.{at_place}

module _ {Y X : Type 0} (f : Y → X) where
  pub get_map : (ys : List Y) (i : ℕ) (y : Y) → slice_get ys i ≡ Some y → slice_get (map f ys) i ≡ Some (f y)
  get_map [] i y e = absurd (let g : None ≡ Some y = e in cc)
  get_map (z ∷ zs) zero y e = ap Some (ap f (let g : Some z ≡ Some y = e in cc))
  get_map (z ∷ zs) (suc i) y e = get_map zs i y e

  pub get_unmap : (ys : List Y) (i : ℕ) (x : X) → slice_get (map f ys) i ≡ Some x → (y : Y) × (slice_get ys i ≡ Some y) × (f y ≡ x)
  get_unmap [] i x e = absurd (let g : None ≡ Some x = e in cc)
  get_unmap (z ∷ zs) zero x e = (z, refl, let g : Some (f z) ≡ Some x = e in cc)
  get_unmap (z ∷ zs) (suc i) x e = get_unmap zs i x e

-- numbers below a count stand for items, one for each, and edges for what is below what
pub record Stand {X : Type 0} (Item : X → Type 0) (Below : X → X → Type 0) (at : ℕ → X) (count : ℕ) (edges : List Edge) : Type 0 where
  pub items : (i : ℕ) → i < count → Item (at i)
  pub number : (x : X) → Item x → (i : ℕ) × (i < count) × (at i ≡ x)
  pub one : (i j : ℕ) → i < count → j < count → at i ≡ at j → i ≡ j
  pub below : (i j : ℕ) → i < count → j < count → Leads edges i j ↔ Below (at i) (at j)

module _ {X : Type 0} (Item : X → Type 0) (Below : X → X → Type 0) (at : ℕ → X) (count : ℕ) (edges : List Edge) (stand : Stand Item Below at count edges) where
  low_at : (ns : List ℕ) → IsOrder (IsBelow count) (Leads edges) ns → (i n : ℕ) → slice_get ns i ≡ Some n → n < count
  low_at ns o i n e = (o.items n).0 (get_contains ns i n e)

  -- an order of the numbers is one of the items
  of_numbers : (ns : List ℕ) → IsOrder (IsBelow count) (Leads edges) ns → IsOrder Item Below (map at ns)
  of_numbers ns o = record {
    items = λ x. (
      λ c. let p = at_place (map at ns) x c in let u = get_unmap at ns p.0 x p.1 in subst Item u.2 (stand.items u.0 (low_at ns o p.0 u.0 u.1)),
      λ h. let n = stand.number x h in
          let p = at_place ns n.0 ((o.items n.0).1 n.1) in
          get_contains (map at ns) p.0 x (get_map at ns p.0 n.0 p.1 ∙ ap Some n.2),
    );
    once = λ i j x a b.
        let u = get_unmap at ns i x a in
        let v = get_unmap at ns j x b in
        let same = stand.one u.0 v.0 (low_at ns o i u.0 u.1) (low_at ns o j v.0 v.1) (u.2 ∙ sym v.2) in
        o.once i j v.0 (u.1 ∙ ap Some same) v.1;
    upwards = λ i j x y l a b.
        let u = get_unmap at ns i x a in
        let v = get_unmap at ns j y b in
        o.upwards i j u.0 v.0 ((stand.below u.0 v.0 (low_at ns o i u.0 u.1) (low_at ns o j v.0 v.1)).1 (subst (λ k. Below (at u.0) k) (sym v.2) (subst (λ k. Below k y) (sym u.2) l))) u.1 v.1;
  }

  -- the numbers of items
  numbers_of : (row : List X) → ((x : X) → Contains row x → Item x) → (ns : List ℕ) × (map at ns ≡ row) × ((i n : ℕ) → slice_get ns i ≡ Some n → n < count)
  numbers_of [] are = ([], refl, λ i n e. absurd (let f : None ≡ Some n = e in cc))
  numbers_of (x ∷ xs) are =
      let n = stand.number x (are x (contains_here x xs)) in
      let rest = numbers_of xs (λ y c. are y (contains_later y x xs c)) in
      (n.0 ∷ rest.0, ap (λ z. z ∷ map at rest.0) n.2 ∙ ap (λ zs. x ∷ zs) rest.1, few n.0 rest.0 n.1 rest.2)
    where
      few : (m : ℕ) (ms : List ℕ) → m < count → ((i n : ℕ) → slice_get ms i ≡ Some n → n < count) → (i n : ℕ) → slice_get (m ∷ ms) i ≡ Some n → n < count
      few m ms l f zero n e = subst (λ k. k < count) (let g : Some m ≡ Some n = e in cc) l
      few m ms l f (suc i) n e = f i n e

  -- an order of the items is one of their numbers
  to_numbers : (ns : List ℕ) → ((i n : ℕ) → slice_get ns i ≡ Some n → n < count) → IsOrder Item Below (map at ns) → IsOrder (IsBelow count) (Leads edges) ns
  to_numbers ns few o = record {
    items = λ n. (
      λ c. let p = at_place ns n c in few p.0 n p.1,
      λ l. let p = at_place (map at ns) (at n) ((o.items (at n)).1 (stand.items n l)) in
          let u = get_unmap at ns p.0 (at n) p.1 in
          get_contains ns p.0 n (u.1 ∙ ap Some (stand.one u.0 n (few p.0 u.0 u.1) l u.2)),
    );
    once = λ i j n a b. o.once i j (at n) (get_map at ns i n a) (get_map at ns j n b);
    upwards = λ i j n m l a b. o.upwards i j (at n) (at m) ((stand.below n m (few i n a) (few j m b)).0 l) (get_map at ns i n a) (get_map at ns j m b);
  }

  pub fixed_of_items : (row : List ℕ) → IsFixed count edges row → IsOneOrder Item Below (map at row)
  fixed_of_items row fixed = record {
    is_order = of_numbers row fixed.is_order;
    only = λ other o.
        let ns = numbers_of other (λ x c. (o.items x).0 c) in
        let same = fixed.only ns.0 (to_numbers ns.0 ns.2 (subst (IsOrder Item Below) (sym ns.1) o)) in
        sym ns.1 ∙ ap (map at) same;
  }

  pub not_fixed_of_items : IsNotFixed count edges → (row : List X) → IsOneOrder Item Below row → ⊥
  not_fixed_of_items none row one =
      let ns = numbers_of row (λ x c. (one.is_order.items x).0 c) in
      none ns.0 (record {
        is_order = to_numbers ns.0 ns.2 (subst (IsOrder Item Below) (sym ns.1) one.is_order);
        only = λ ms o.
            let same : map at ms ≡ map at ns.0 = one.only (map at ms) (of_numbers ms o) ∙ sym ns.1 in
            same_numbers ms ns.0 (λ i n e. low_at ms o i n e) ns.2 same;
      })
    where
      same_numbers : (ms ns : List ℕ) → ((i n : ℕ) → slice_get ms i ≡ Some n → n < count) → ((i n : ℕ) → slice_get ns i ≡ Some n → n < count) → map at ms ≡ map at ns → ms ≡ ns
      same_numbers [] [] f g e = refl
      same_numbers [] (n ∷ ns) f g e = absurd (let h : [] ≡ at n ∷ map at ns = e in cc)
      same_numbers (m ∷ ms) [] f g e = absurd (let h : at m ∷ map at ms ≡ [] = e in cc)
      same_numbers (m ∷ ms) (n ∷ ns) f g e =
          let h : at m ∷ map at ms ≡ at n ∷ map at ns = e in
          let front : at m ≡ at n = cc in
          let back : map at ms ≡ map at ns = cc in
          let k = stand.one m n (f zero m refl) (g zero n refl) front in
          ap (λ z. z ∷ ms) k ∙ ap (λ zs. n ∷ zs) (same_numbers ms ns (λ i z d. f (suc i) z d) (λ i z d. g (suc i) z d) back)

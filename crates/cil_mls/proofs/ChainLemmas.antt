-- Of all orders there is just one where neighbours are given as such; and where two neighbours are not, they can change places.
use Rattle.std.specs.Prelude.{◌≡◌, ℕ, zero, suc, ◌<◌, ◌≤◌, List, [], ◌∷◌, Some, None, slice_get, Contains}
use Rattle.std.proofs.Common.{refl, sym, ◌∙◌, ap, subst, inl, inr, arith}
use Rattle.cil_base.specs.Lists.{contains_here, contains_later, contains_cases, contains_none}
use Rattle.cil_base.specs.Places.{get_at, get_contains}
use Rattle.cil_mls.specs.Orders.{IsOrder, IsOneOrder, IsChain}

module _ {X : Type 0} where
  -- where a member is
  pub at_place : (row : List X) (x : X) → Contains row x → (i : ℕ) × (slice_get row i ≡ Some x)
  at_place row x c = let p = get_at row x c in (p.0, p.2)

  -- without its first item, an order is an order of the others
  tail_is : (Item : X → Type 0) (Below : X → X → Type 0) (x : X) (xs : List X) → IsOrder Item Below (x ∷ xs) → IsOrder (λ z. Item z × (z ≡ x → ⊥)) Below xs
  tail_is Item Below x xs o = record {
    items = λ z. (
      λ c. ((o.items z).0 (contains_later z x xs c), λ e. let p = at_place xs z c in let n : suc p.0 ≡ zero = o.once (suc p.0) zero z p.1 (ap Some (sym e)) in omega (arith, n)),
      λ h. elim (contains_cases z x xs ((o.items z).1 h.0)) [ inl e ↦ absurd (h.1 (sym e)) | inr c ↦ c ],
    );
    once = λ i j z p q. let n : suc i ≡ suc j = o.once (suc i) (suc j) z p q in omega (arith, n);
    upwards = λ i j a b l p q. let n : suc i < suc j = o.upwards (suc i) (suc j) a b l p q in omega (arith, n);
  }

  -- in every order, the first of a chain comes before the others
  module _ (Item : X → Type 0) (Below : X → X → Type 0) (other : List X) (o : IsOrder Item Below other) where
    first_before : (x : X) (xs : List X) → IsChain Item Below (x ∷ xs) → ((z : X) → Contains (x ∷ xs) z → Item z)
        → (z : X) → Contains (x ∷ xs) z → (p q : ℕ) → slice_get other p ≡ Some x → slice_get other q ≡ Some z → p ≤ q
    first_before x [] chain are z c p q a b = elim (contains_cases z x [] c) [
      | inl e ↦ let n : p ≡ q = o.once p q x a (b ∙ ap Some (sym e)) in omega (arith, n)
      | inr d ↦ absurd (contains_none z d)
    ]
    first_before x (y ∷ ys) chain are z c p q a b = elim (contains_cases z x (y ∷ ys) c) [
      | inl e ↦ let n : p ≡ q = o.once p q x a (b ∙ ap Some (sym e)) in omega (arith, n)
      | inr d ↦
          let k = at_place other y ((o.items y).1 (are y (contains_later y x (y ∷ ys) (contains_here y ys)))) in
          let up : p < k.0 = o.upwards p k.0 x y (chain zero x y refl refl) a k.1 in
          let rest : k.0 ≤ q = first_before y ys (λ i. chain (suc i)) (λ w m. are w (contains_later w x (y ∷ ys) m)) z d k.0 q k.1 b in
          omega (arith, up, rest)
    ]

  -- a chain is the one order
  pub chain_only : (row : List X) (Item : X → Type 0) (Below : X → X → Type 0) → IsOrder Item Below row → IsChain Item Below row → (other : List X) → IsOrder Item Below other → other ≡ row
  chain_only [] Item Below o chain [] p = refl
  chain_only [] Item Below o chain (y ∷ ys) p = absurd (contains_none y ((o.items y).1 ((p.items y).0 (contains_here y ys))))
  chain_only (x ∷ xs) Item Below o chain [] p = absurd (contains_none x ((p.items x).1 ((o.items x).0 (contains_here x xs))))
  chain_only (x ∷ xs) Item Below o chain (y ∷ ys) p =
      let a = at_place (y ∷ ys) x ((p.items x).1 ((o.items x).0 (contains_here x xs))) in
      let low : a.0 ≤ zero = first_before Item Below (y ∷ ys) p x xs chain (λ z c. (o.items z).0 c) y ((o.items y).1 ((p.items y).0 (contains_here y ys))) a.0 zero a.1 refl in
      let front : a.0 ≡ zero = omega (arith, low) in
      let same : y ≡ x = (let e : Some y ≡ Some x = subst (λ i. slice_get (y ∷ ys) i ≡ Some x) front a.1 in cc) in
      let tails : ys ≡ xs = chain_only xs (λ z. Item z × (z ≡ x → ⊥)) Below (tail_is Item Below x xs o) (λ i. chain (suc i)) ys
      (tail_is Item Below x ys (subst (λ w. IsOrder Item Below (w ∷ ys)) same p)) in
      ap (λ w. w ∷ ys) same ∙ ap (λ w. x ∷ w) tails

  pub chain_is_one : (Item : X → Type 0) (Below : X → X → Type 0) (row : List X) → IsOrder Item Below row → IsChain Item Below row → IsOneOrder Item Below row
  chain_is_one Item Below row o chain = record { is_order = o; only = chain_only row Item Below o chain }

  -- ---- two neighbours change places

  abbrev pub swapped : ℕ → List X → List X
  swapped i [] = []
  swapped zero (x ∷ []) = x ∷ []
  swapped zero (x ∷ (y ∷ rest)) = y ∷ (x ∷ rest)
  swapped (suc i) (x ∷ xs) = x ∷ swapped i xs

  swap_keeps : (i : ℕ) (row : List X) (z : X) → Contains row z → Contains (swapped i row) z
  swap_keeps i [] z c = c
  swap_keeps zero (x ∷ []) z c = c
  swap_keeps zero (x ∷ (y ∷ rest)) z c = elim (contains_cases z x (y ∷ rest) c) [
    | inl e ↦ contains_later z y (x ∷ rest) (subst (λ w. Contains (x ∷ rest) w) e (contains_here x rest))
    | inr d ↦ elim (contains_cases z y rest d) [
      | inl e ↦ subst (λ w. Contains (y ∷ (x ∷ rest)) w) e (contains_here y (x ∷ rest))
      | inr f ↦ contains_later z y (x ∷ rest) (contains_later z x rest f)
    ]
  ]
  swap_keeps (suc i) (x ∷ xs) z c = elim (contains_cases z x xs c) [
    | inl e ↦ subst (λ w. Contains (x ∷ swapped i xs) w) e (contains_here x (swapped i xs))
    | inr d ↦ contains_later z x (swapped i xs) (swap_keeps i xs z d)
  ]

  swap_back : (i : ℕ) (row : List X) → swapped i (swapped i row) ≡ row
  swap_back i [] = refl
  swap_back zero (x ∷ []) = refl
  swap_back zero (x ∷ (y ∷ rest)) = refl
  swap_back (suc i) (x ∷ xs) = ap (λ w. x ∷ w) (swap_back i xs)

  swap_adds_none : (i : ℕ) (row : List X) (z : X) → Contains (swapped i row) z → Contains row z
  swap_adds_none i row z c = subst (λ w. Contains w z) (swap_back i row) (swap_keeps i (swapped i row) z c)

  -- no item of a row is below one before it, and none is there twice
  abbrev Rises : (X → X → Type 0) → List X → Type 0
  Rises Below [] = Unit {0}
  Rises Below (x ∷ xs) = (Below x x → ⊥) × ((z : X) → Contains xs z → (Below z x → ⊥) × (z ≡ x → ⊥)) × Rises Below xs

  to_rises : (Item : X → Type 0) (Below : X → X → Type 0) (row : List X) → IsOrder Item Below row → Rises Below row
  to_rises Item Below [] o = tt
  to_rises Item Below (x ∷ xs) o = (
    λ b. let n : zero < zero = o.upwards zero zero x x b refl refl in omega (arith, n),
    λ z c. let p = at_place xs z c in (
      λ b. let n : suc p.0 < zero = o.upwards (suc p.0) zero z x b p.1 refl in omega (arith, n),
      λ e. let n : suc p.0 ≡ zero = o.once (suc p.0) zero z p.1 (ap Some (sym e)) in omega (arith, n),
    ),
    to_rises (λ z. Item z × (z ≡ x → ⊥)) Below xs (tail_is Item Below x xs o),
  )

  rise_once : (Below : X → X → Type 0) (row : List X) → Rises Below row → (i j : ℕ) (x : X) → slice_get row i ≡ Some x → slice_get row j ≡ Some x → i ≡ j
  rise_once Below [] r i j x a b = absurd (let f : None ≡ Some x = a in cc)
  rise_once Below (y ∷ ys) r zero zero x a b = refl
  rise_once Below (y ∷ ys) r zero (suc j) x a b = absurd ((r.1 x (get_contains ys j x b)).1 (let f : Some y ≡ Some x = a in cc))
  rise_once Below (y ∷ ys) r (suc i) zero x a b = absurd ((r.1 x (get_contains ys i x a)).1 (let f : Some y ≡ Some x = b in cc))
  rise_once Below (y ∷ ys) r (suc i) (suc j) x a b = ap suc (rise_once Below ys r.2 i j x a b)

  rise_upwards : (Below : X → X → Type 0) (row : List X) → Rises Below row → (i j : ℕ) (x y : X) → Below x y → slice_get row i ≡ Some x → slice_get row j ≡ Some y → i < j
  rise_upwards Below [] r i j x y l a b = absurd (let f : None ≡ Some x = a in cc)
  rise_upwards Below (z ∷ zs) r zero zero x y l a b =
      absurd (r.0 (subst (λ w. Below z w) (let f : Some y ≡ Some z = sym b in cc) (subst (λ w. Below w y) (let f : Some x ≡ Some z = sym a in cc) l)))
  rise_upwards Below (z ∷ zs) r zero (suc j) x y l a b = omega arith
  rise_upwards Below (z ∷ zs) r (suc i) zero x y l a b =
      absurd ((r.1 x (get_contains zs i x a)).0 (subst (λ w. Below x w) (let f : Some y ≡ Some z = sym b in cc) l))
  rise_upwards Below (z ∷ zs) r (suc i) (suc j) x y l a b = let n = rise_upwards Below zs r.2 i j x y l a b in omega (arith, n)

  swap_rises : (Below : X → X → Type 0) (i : ℕ) (row : List X) (x y : X) → slice_get row i ≡ Some x → slice_get row (suc i) ≡ Some y → (Below x y → ⊥) → Rises Below row → Rises Below (swapped i row)
  swap_rises Below i [] x y a b f r = r
  swap_rises Below zero (v ∷ []) x y a b f r = r
  swap_rises Below zero (v ∷ (w ∷ rest)) x y a b f r =
      let vx : v ≡ x = (let e : Some v ≡ Some x = a in cc) in
      let wy : w ≡ y = (let e : Some w ≡ Some y = b in cc) in (
        r.2.0,
        λ z c. elim (contains_cases z v rest c) [
          | inl e ↦ (
            λ l. f (subst (λ k. Below x k) wy (subst (λ k. Below k w) (sym e ∙ vx) l)),
            λ d. (r.1 w (contains_here w rest)).1 (sym d ∙ sym e),
          )
          | inr d ↦ r.2.1 z d
        ],
        (r.0, λ z c. r.1 z (contains_later z w rest c), r.2.2),
      )
  swap_rises Below (suc i) (v ∷ vs) x y a b f r = (r.0, λ z c. r.1 z (swap_adds_none i vs z c), swap_rises Below i vs x y a b f r.2)

  swap_front : (i : ℕ) (row : List X) (x y : X) → slice_get row i ≡ Some x → slice_get row (suc i) ≡ Some y → slice_get (swapped i row) i ≡ Some y
  swap_front i [] x y a b = absurd (let f : None ≡ Some x = a in cc)
  swap_front zero (v ∷ []) x y a b = absurd (let f : None ≡ Some y = b in cc)
  swap_front zero (v ∷ (w ∷ rest)) x y a b = b
  swap_front (suc i) (v ∷ vs) x y a b = swap_front i vs x y a b

  -- an order in which two neighbours are not given as such is not the only one
  pub not_the_only : (Item : X → Type 0) (Below : X → X → Type 0) (row : List X) (i : ℕ) (x y : X) → IsOrder Item Below row
      → slice_get row i ≡ Some x → slice_get row (suc i) ≡ Some y → (Below x y → ⊥) → (one : List X) → IsOneOrder Item Below one → ⊥
  not_the_only Item Below row i x y o a b f one fixed =
      let r = swap_rises Below i row x y a b f (to_rises Item Below row o) in
      let o2 : IsOrder Item Below (swapped i row) = record {
        items = λ z. (λ c. (o.items z).0 (swap_adds_none i row z c), λ h. swap_keeps i row z ((o.items z).1 h));
        once = rise_once Below (swapped i row) r;
        upwards = rise_upwards Below (swapped i row) r;
      } in
      let same : swapped i row ≡ row = fixed.only (swapped i row) o2 ∙ sym (fixed.only row o) in
      let both : slice_get row i ≡ Some y = subst (λ w. slice_get w i ≡ Some y) same (swap_front i row x y a b) in
      let n : i ≡ suc i = o.once i (suc i) y both b in omega (arith, n)

-- Places of a list: what is at a place, what is before it and from it on, what a change leaves, and what a list begins and ends
-- with.
use Rattle.std.proofs.Common.{◌≡◌, ℕ, zero, suc, ◌+◌, ◌<◌, ◌≤◌, ◌⊎◌, Bool, true, false, List, [], ◌∷◌, ◌++◌, length, get_or, take, drop, refl, sym, ◌∙◌, ap, subst, inl, inr, arith}
use Rattle.std.specs.Prelude.{Contains, Option, Some, None, set, slice_get}
use Rattle.std.proofs.lemmas.List.{drop_more, get_or-set_other, get_or-set_same, length-set}
use Rattle.cil_base.specs.Lists.{contains_here, contains_later, contains_cases, contains_none}

module _ {X : Type 0} where
  pub some_same : (x y : X) → Some x ≡ Some y → x ≡ y
  some_same x y e = cc

  pub none_some : (x : X) → None ≡ Some x → ⊥
  none_some x e = cc

  pub get_in_front : (xs ys : List X) (k : ℕ) → k < length xs → slice_get (xs ++ ys) k ≡ slice_get xs k
  get_in_front [] ys k h = absurd (omega (arith, h))
  get_in_front (x ∷ xs) ys zero h = refl
  get_in_front (x ∷ xs) ys (suc k) h = get_in_front xs ys k (omega (arith, h))

  pub get_behind : (xs ys : List X) (k n : ℕ) → n ≡ length xs + k → slice_get (xs ++ ys) n ≡ slice_get ys k
  get_behind [] ys k n e = let same : n ≡ k = omega (arith, e) in ap (slice_get ys) same
  get_behind (x ∷ xs) ys k zero e = absurd (omega (arith, e))
  get_behind (x ∷ xs) ys k (suc m) e = get_behind xs ys k m (omega (arith, e))

  pub in_range : (xs : List X) (k : ℕ) (x : X) → slice_get xs k ≡ Some x → k < length xs
  in_range [] k x e = absurd (none_some x e)
  in_range (y ∷ ys) zero x e = omega arith
  in_range (y ∷ ys) (suc k) x e = let h = in_range ys k x e in omega (arith, h)

  pub get_contains : (xs : List X) (k : ℕ) (x : X) → slice_get xs k ≡ Some x → Contains xs x
  get_contains [] k x e = absurd (none_some x e)
  get_contains (y ∷ ys) zero x e = subst (Contains (y ∷ ys)) (some_same y x e) (contains_here y ys)
  get_contains (y ∷ ys) (suc k) x e = contains_later x y ys (get_contains ys k x e)

  pub get_at : (xs : List X) (x : X) → Contains xs x → (k : ℕ) × (k < length xs) × (slice_get xs k ≡ Some x)
  get_at [] x c = absurd (contains_none x c)
  get_at (y ∷ ys) x c =
      elim (contains_cases x y ys c) [
        | inl e ↦ (0, omega arith, ap Some e)
        | inr d ↦ let g = get_at ys x d in let h = g.1 in (suc g.0, omega (arith, h), g.2)
      ]

  pub some_at : (xs : List X) (k : ℕ) → k < length xs → (x : X) × (slice_get xs k ≡ Some x)
  some_at [] k h = absurd (omega (arith, h))
  some_at (x ∷ xs) zero h = (x, refl)
  some_at (x ∷ xs) (suc k) h = some_at xs k (omega (arith, h))

  pub get_so : (xs : List X) (k : ℕ) (x d : X) → slice_get xs k ≡ Some x → get_or xs k d ≡ x
  get_so [] k x d e = absurd (none_some x e)
  get_so (y ∷ ys) zero x d e = some_same y x e
  get_so (y ∷ ys) (suc k) x d e = get_so ys k x d e

  pub is_there : (xs : List X) (k : ℕ) (d : X) → k < length xs → slice_get xs k ≡ Some (get_or xs k d)
  is_there xs k d h = let s = some_at xs k h in s.1 ∙ ap Some (sym (get_so xs k s.0 d s.1))

  pub there_as : (xs : List X) (k : ℕ) (x : X) → k < length xs → x ≡ get_or xs k x → slice_get xs k ≡ Some x
  there_as xs k x h e = is_there xs k x h ∙ ap Some (sym e)

  pub contains_at : (xs : List X) (k : ℕ) (x d : X) → k < length xs → x ≡ get_or xs k d → Contains xs x
  contains_at xs k x d h e = get_contains xs k x (is_there xs k d h ∙ ap Some (sym e))

  pub not_there : (xs : List X) (k : ℕ) → length xs ≤ k → slice_get xs k ≡ None
  not_there [] k h = refl
  not_there (x ∷ xs) zero h = absurd (omega (arith, h))
  not_there (x ∷ xs) (suc k) h = not_there xs k (omega (arith, h))

  -- ---- beginnings

  abbrev tail_of : List X → List X
  tail_of [] = []
  tail_of (x ∷ xs) = xs

  abbrev head_or : X → List X → X
  head_or d [] = d
  head_or d (x ∷ xs) = x

  abbrev is_empty : List X → Bool
  is_empty [] = true
  is_empty (x ∷ xs) = false

  pub never_cons : (x : X) (xs : List X) → [] ≡ x ∷ xs → ⊥
  never_cons x xs e = let f : true ≡ false = ap is_empty e in cc

  pub cons_head : (x y : X) (xs ys : List X) → x ∷ xs ≡ y ∷ ys → x ≡ y
  cons_head x y xs ys e = ap (head_or x) e

  pub cons_tail : (x y : X) (xs ys : List X) → x ∷ xs ≡ y ∷ ys → xs ≡ ys
  cons_tail x y xs ys e = ap tail_of e

  -- ---- before a place, and from it on

  -- what is from a place on begins with what is there
  pub drop_at : (xs : List X) (i : ℕ) (x d : X) → i < length xs → x ≡ get_or xs i d → drop i xs ≡ x ∷ drop (i + 1) xs
  drop_at xs i x d within is = drop_more xs i d within ∙ ap (λ y. y ∷ drop (i + 1) xs) (sym is)

  module _ (P : X → Type 0) where
    pub in_take : (n : ℕ) (xs : List X) → ((k : ℕ) (d : X) → k < n → k < length xs → P (get_or xs k d)) → (x : X) → Contains (take n xs) x → P x
    in_take zero xs all x c = absurd (contains_none x c)
    in_take (suc n) [] all x c = absurd (contains_none x c)
    in_take (suc n) (y ∷ ys) all x c =
        elim (contains_cases x y (take n ys) c) [
          | inl e ↦ subst P e (all 0 y (omega arith) (omega arith))
          | inr d ↦ in_take n ys (λ k e a b. all (suc k) e (omega (arith, a)) (omega (arith, b))) x d
        ]

    pub in_drop : (n : ℕ) (xs : List X) → ((k : ℕ) (d : X) → n ≤ k → k < length xs → P (get_or xs k d)) → (x : X) → Contains (drop n xs) x → P x
    in_drop n [] all x c = absurd (contains_none x (none n c))
      where
        none : (m : ℕ) → Contains (drop m []) x → Contains [] x
        none zero d = d
        none (suc m) d = d
    in_drop zero (y ∷ ys) all x c =
        elim (contains_cases x y ys c) [
          | inl e ↦ subst P e (all 0 y (omega arith) (omega arith))
          | inr d ↦ in_drop zero ys (λ k e a b. all (suc k) e (omega arith) (omega (arith, b))) x d
        ]
    in_drop (suc n) (y ∷ ys) all x c = in_drop n ys (λ k e a b. all (suc k) e (omega (arith, a)) (omega (arith, b))) x c

  -- ---- a change at one place

  pub get_set_same : (xs : List X) (n : ℕ) (a : X) → n < length xs → slice_get (set xs n a) n ≡ Some a
  get_set_same xs n a within =
      let len = length-set xs n a in is_there (set xs n a) n a (omega (arith, within, len)) ∙ ap Some (get_or-set_same xs n a a within)

  pub get_set_other : (xs : List X) (n m : ℕ) (a : X) → (m ≡ n → ⊥) → slice_get (set xs n a) m ≡ slice_get xs m
  get_set_other xs n m a differ = at _ refl
    where
      back : (x : X) → slice_get xs m ≡ Some x → slice_get (set xs n a) m ≡ Some x
      back x e =
          let len = length-set xs n a in
          let within = in_range xs m x e in
          is_there (set xs n a) m x (omega (arith, within, len)) ∙ ap Some (get_or-set_other xs n m a x differ ∙ get_so xs m x x e)

      there : (x : X) → slice_get (set xs n a) m ≡ Some x → slice_get xs m ≡ Some x
      there x e =
          let len = length-set xs n a in
          let within = in_range (set xs n a) m x e in
          is_there xs m x (omega (arith, within, len)) ∙ ap Some (sym (get_or-set_other xs n m a x differ) ∙ get_so (set xs n a) m x x e)

      at : (o : Option X) → slice_get xs m ≡ o → slice_get (set xs n a) m ≡ slice_get xs m
      at (Some x) e = back x e ∙ sym e
      at None e = missing _ refl ∙ sym e
        where
          missing : (o : Option X) → slice_get (set xs n a) m ≡ o → slice_get (set xs n a) m ≡ None
          missing None g = g
          missing (Some y) g = absurd (none_some y (sym e ∙ there y g))

  -- ---- ends

  pub get_last : (xs : List X) (x : X) → slice_get (xs ++ x ∷ []) (length xs) ≡ Some x
  get_last [] x = refl
  get_last (y ∷ ys) x = get_last ys x

  pub longer : (xs : List X) (x : X) → length (xs ++ x ∷ []) ≡ length xs + 1
  longer [] x = refl
  longer (y ∷ ys) x = let r = longer ys x in omega (arith, r)

  -- what is in a list with one more is in the list, or is the last
  pub at_or_last : (xs : List X) (x y : X) (i : ℕ) → slice_get (xs ++ x ∷ []) i ≡ Some y → (slice_get xs i ≡ Some y) ⊎ ((i ≡ length xs) × (x ≡ y))
  at_or_last [] x y zero e = inr (refl, some_same x y e)
  at_or_last [] x y (suc i) e = absurd (none_some y e)
  at_or_last (z ∷ zs) x y zero e = inl e
  at_or_last (z ∷ zs) x y (suc i) e = elim (at_or_last zs x y i e) [ inl h ↦ inl h | inr h ↦ inr (ap suc h.0, h.1) ]

  pub never_empty : (x y : X) (xs : List X) → [] ≡ xs ++ x ∷ [] → ⊥
  never_empty x y [] e = let f : true ≡ false = ap is_empty e in cc
  never_empty x y (z ∷ zs) e = let f : true ≡ false = ap is_empty e in cc

  -- two lists that end with one element each are equal part by part
  pub same_ends : (xs ys : List X) (x y : X) → xs ++ x ∷ [] ≡ ys ++ y ∷ [] → (xs ≡ ys) × (x ≡ y)
  same_ends [] [] x y e = (refl, ap (head_or x) e)
  same_ends [] (z ∷ zs) x y e = absurd (never_empty y x zs (ap tail_of e))
  same_ends (z ∷ zs) [] x y e = absurd (never_empty x y zs (sym (ap tail_of e)))
  same_ends (z ∷ zs) (u ∷ us) x y e =
      let rest = same_ends zs us x y (ap tail_of e) in
      ((λ i. head_or z (e i) ∷ rest.0 i), rest.1)

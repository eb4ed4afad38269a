-- How many elements of a list pass a test: lists that are made of others, and two tests.
use Rattle.std.specs.Prelude.{◌≡◌, ℕ, ◌+◌, ◌≤◌, Bool, true, false, ◌&&◌, List, [], ◌∷◌, ◌++◌, Contains}
use Rattle.std.specs.List.{count_by, sum_by, flat_map}
use Rattle.std.proofs.Common.{cond, refl, sym, ap, subst, inl, inr, arith}
use Rattle.std.proofs.lemmas.List.Sums.{sum_by-append, sum_by-cons}
use Rattle.cil_base.specs.Lists.{contains_here, contains_later, contains_cases, contains_none}

first_of : (a b : Bool) → (a && b) ≡ true → a ≡ true
first_of true b h = refl
first_of false b h = h

module _ {X : Type 0} where
  pub count_cons : (p : X → Bool) (x : X) (xs : List X) → count_by p (x ∷ xs) ≡ cond (p x) 1 0 + count_by p xs
  count_cons p x xs = sum_by-cons (λ y. cond (p y) 1 0) x xs

  pub count_append : (p : X → Bool) (xs ys : List X) → count_by p (xs ++ ys) ≡ count_by p xs + count_by p ys
  count_append p xs ys = sum_by-append (λ y. cond (p y) 1 0) xs ys

  -- what is said of the list of each element, of the lists of all one after another
  pub count_flat : {Y : Type 0} (p : X → Bool) (made : Y → List X) (count : Y → ℕ) (ys : List Y)
      → ((y : Y) → Contains ys y → count_by p (made y) ≡ count y) → count_by p (flat_map made ys) ≡ sum_by count ys
  count_flat p made count [] each = refl
  count_flat p made count (y ∷ ys) each =
      let front = count_append p (made y) (flat_map made ys) in
      let rest = count_flat p made count ys (λ z c. each z (contains_later z y ys c)) in
      let one = each y (contains_here y ys) in
      let total = sum_by-cons count y ys in omega (arith, front, rest, one, total)

  -- what passes the one test passes the other
  pub count_mono : (p q : X → Bool) (xs : List X) → ((x : X) → p x ≡ true → q x ≡ true) → count_by p xs ≤ count_by q xs
  count_mono p q [] f = omega arith
  count_mono p q (x ∷ xs) f = step (p x) (q x) _ _ _ _ (count_cons p x xs) (count_cons q x xs) (f x) (count_mono p q xs f) where
    step : (a b : Bool) (s t h k : ℕ) → s ≡ cond a 1 0 + h → t ≡ cond b 1 0 + k → (a ≡ true → b ≡ true) → h ≤ k → s ≤ t
    step true true s t h k e f g l = omega (arith, e, f, l)
    step true false s t h k e f g l = absurd (let c : false ≡ true = g refl in cc)
    step false true s t h k e f g l = omega (arith, e, f, l)
    step false false s t h k e f g l = omega (arith, e, f, l)

  pub count_same : (p q : X → Bool) (xs : List X) → ((x : X) → p x ≡ q x) → count_by p xs ≡ count_by q xs
  count_same p q xs e = ap (λ t. count_by t xs) (λ i x. e x i)

  pub at_most : (p q : X → Bool) (xs : List X) → count_by (λ x. p x && q x) xs ≤ count_by p xs
  at_most p q xs = count_mono (λ x. p x && q x) p xs (λ x. first_of (p x) (q x))

  -- as many pass both tests as the first: what passes the first passes the second
  pub all_pass : (p q : X → Bool) (xs : List X) → count_by p xs ≤ count_by (λ x. p x && q x) xs → (x : X) → Contains xs x → p x ≡ true → q x ≡ true
  all_pass p q [] l x c e = absurd (contains_none x c)
  all_pass p q (y ∷ ys) l x c e =
      let s = count_cons (λ z. p z && q z) y ys in
      let t = count_cons p y ys in
      let m = at_most p q ys in
      elim (contains_cases x y ys c) [
        | inl same ↦ subst (λ z. q z ≡ true) same (here (p y) (q y) _ _ _ _ s t l m (subst (λ z. p z ≡ true) (sym same) e))
        | inr there ↦ all_pass p q ys (later (p y) (q y) _ _ _ _ s t l m) x there e
      ]
    where
      here : (a b : Bool) (s t h k : ℕ) → s ≡ cond (a && b) 1 0 + h → t ≡ cond a 1 0 + k → t ≤ s → h ≤ k → a ≡ true → b ≡ true
      here true true s t h k e f l m g = refl
      here true false s t h k e f l m g = absurd (omega (arith, e, f, l, m))
      here false b s t h k e f l m g = absurd (let c : false ≡ true = g in cc)

      later : (a b : Bool) (s t h k : ℕ) → s ≡ cond (a && b) 1 0 + h → t ≡ cond a 1 0 + k → t ≤ s → h ≤ k → k ≤ h
      later true true s t h k e f l m = omega (arith, e, f, l, m)
      later true false s t h k e f l m = absurd (omega (arith, e, f, l, m))
      later false b s t h k e f l m = omega (arith, e, f, l, m)

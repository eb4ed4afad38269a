-- A fact of each item of a list, by recursion and by place.
use Rattle.std.proofs.Common.{zero, suc, List, [], ◌∷◌, ◌++◌, All, arith}
use Rattle.std.specs.List.{AllByRecursion}

module _ {X : Type 0} (P : X → Type 0) where
  pub by_place : (xs : List X) → AllByRecursion P xs → All P xs
  by_place [] h k d lt = absurd (omega (arith, lt))
  by_place (x ∷ xs) h zero d lt = h.0
  by_place (x ∷ xs) h (suc k) d lt = by_place xs h.1 k d (omega (arith, lt))

  pub by_recursion : (xs : List X) → All P xs → AllByRecursion P xs
  by_recursion [] h = tt
  by_recursion (x ∷ xs) h = (h 0 x (omega arith), by_recursion xs (λ k d lt. h (suc k) d (omega (arith, lt))))

  pub of_both : (xs ys : List X) → AllByRecursion P xs → AllByRecursion P ys → AllByRecursion P (xs ++ ys)
  of_both [] ys p q = q
  of_both (x ∷ xs) ys p q = (p.0, of_both xs ys p.1 q)

  pub front_all : (xs ys : List X) → AllByRecursion P (xs ++ ys) → AllByRecursion P xs
  front_all [] ys h = tt
  front_all (x ∷ xs) ys h = (h.0, front_all xs ys h.1)

  pub rest_all : (xs ys : List X) → AllByRecursion P (xs ++ ys) → AllByRecursion P ys
  rest_all [] ys h = h
  rest_all (x ∷ xs) ys h = rest_all xs ys h.1

module _ {X : Type 0} (P Q : X → Type 0) (leads : (x : X) → P x → Q x) where
  pub weaker : (xs : List X) → AllByRecursion P xs → AllByRecursion Q xs
  weaker [] h = tt
  weaker (x ∷ xs) h = (leads x h.0, weaker xs h.1)

-- The optionals round a statement, tested one after another.
use Rattle.std.proofs.Common.{◌≡◌, ℕ, Bool, true, false, ◌&&◌, List, ◌∷◌, refl, ◌∙◌, ap}
use Rattle.std.specs.List.{list_all}

with_first : (a b : Bool) → a ≡ true → (a && b) ≡ b
with_first true b e = refl
with_first false b e = absurd (let f : false ≡ true = e in cc)

module _ (s : ℕ → Bool) where
  -- the first is in the set: the others decide
  pub one_further : (round : List ℕ) (o : ℕ) (os : List ℕ) → round ≡ o ∷ os → s o ≡ true → list_all s round ≡ list_all s os
  one_further round o os e h = ap (list_all s) e ∙ with_first (s o) (list_all s os) h

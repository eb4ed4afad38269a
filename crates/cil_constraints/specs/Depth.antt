-- How deep the expressions in some steps nest. No other crate needs these words.
use Rattle.std.specs.Prelude.{◌≡◌, ◌≤◌, ℕ, List, ◌∷◌}
use Rattle.cil_constraints.specs.declared.step.Step.{Step}
use Rattle.cil_constraints.specs.Expressions.{Expression, levels_of, trees}

-- the first expression has more levels
abbrev pub IsDeeper : List Step → ℕ → Type 0
IsDeeper ss most = (e : Expression (List ℕ)) (es : List (Expression (List ℕ))) → trees ss ≡ e ∷ es → levels_of e ≤ most → ⊥

-- the first expression has no more, and the others are in the rest
abbrev pub IsBehind : List Step → ℕ → List Step → Type 0
IsBehind ss most rest = (e : Expression (List ℕ)) (es : List (Expression (List ℕ))) → trees ss ≡ e ∷ es → (levels_of e ≤ most) × (trees rest ≡ es)

-- one of the first two has more
abbrev pub AreDeeper : List Step → ℕ → Type 0
AreDeeper ss most =
    (e f : Expression (List ℕ)) (es : List (Expression (List ℕ))) → trees ss ≡ e ∷ f ∷ es → levels_of e ≤ most → levels_of f ≤ most → ⊥

-- neither has more
abbrev pub AreBehind : List Step → ℕ → List Step → Type 0
AreBehind ss most rest =
    (e f : Expression (List ℕ)) (es : List (Expression (List ℕ))) → trees ss ≡ e ∷ f ∷ es → (levels_of e ≤ most) × (levels_of f ≤ most) × (trees rest ≡ es)

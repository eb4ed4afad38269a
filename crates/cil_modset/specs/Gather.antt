-- Two rising lists are taken apart from their ends.
use Rattle.std.specs.Prelude.{◌≡◌, ◌⊎◌, ℕ, List, [], ◌∷◌, ◌++◌, Contains}
use Rattle.cil_modset.specs.Modules.{IsBelow}

-- no text is in both
abbrev pub AreApart : List (List ℕ) → List (List ℕ) → Type 0
AreApart a b = (text : List ℕ) → Contains a text → Contains b text → ⊥

-- where both lists end with a text, that of the first does not come before that of the second
abbrev pub EndsLast : List (List ℕ) → List (List ℕ) → Type 0
EndsLast a b = (x y : List ℕ) (front back : List (List ℕ)) → a ≡ front ++ x ∷ [] → b ≡ back ++ y ∷ [] → IsBelow x y → ⊥

-- one list ended with the text, and the other one did not end with a later one and stays
pub record IsTakenOff (longer shorter other kept : List (List ℕ)) (text : List ℕ) : Type 0 where
  pub ended : longer ≡ shorter ++ text ∷ []
  pub stays : kept ≡ other
  pub last : EndsLast longer other

-- a text was taken off the end of one of two lists
abbrev pub IsTakenFrom : List (List ℕ) → List (List ℕ) → List (List ℕ) → List (List ℕ) → List ℕ → Type 0
IsTakenFrom low high low_left high_left text =
    IsTakenOff low low_left high high_left text ⊎ IsTakenOff high high_left low low_left text

-- Which reason is told of an optional that is left out: of those that hold when its turn comes, the first. That of the parent comes
-- before all words, and words come in the order of the statements and of the words in each. This project's profile.
use Rattle.std.specs.Prelude.{◌≡◌, ◌<◌, ◌≤◌, ◌⊎◌, ℕ, List, [], ◌∷◌}
use Rattle.cil_macros.specs.Item.{Item}
use Rattle.cil_optionals.specs.declared.reason.Reason.{Reason}
use Rattle.cil_optionals.specs.declared.reason.Reason.TheVariants.{Missing, ParentOut}
use Rattle.cil_optionals.specs.Certificate.{Holds, left_out}

-- the parent comes before all words; words come by the numbers of their statements, and in one statement by their places
abbrev pub ComesNoLater : Reason → Reason → Type 0
ComesNoLater (ParentOut o) r = Unit {0}
ComesNoLater (Missing o i j) (ParentOut p) = ⊥
ComesNoLater (Missing o i j) (Missing p k l) = (i < k) ⊎ ((i ≡ k) × (j ≤ l))

-- where these are out, no reason that holds of the same optional comes before this one
abbrev pub IsFirst : List Item → List ℕ → Reason → Type 0
IsFirst xs out r = (q : Reason) → left_out q ≡ left_out r → Holds xs out q → ComesNoLater r q

-- each reason is the first one of its optional where these and those before it are out
abbrev pub AreFirst : List Item → List ℕ → List Reason → Type 0
AreFirst xs out [] = Unit {0}
AreFirst xs out (r ∷ rs) = IsFirst xs out r × AreFirst xs (left_out r ∷ out) rs

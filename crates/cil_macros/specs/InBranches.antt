-- In which branch of which booleanif something is placed, as it is found by the openers. This project's profile.
use Rattle.std.specs.Prelude.{◌≡◌, ℕ, ◌<◌, Bool, true, List, Option, Some, None, slice_get, MatchOption}
use Rattle.cil_syntax.specs.Written.{Written}
use Rattle.cil_blocks.specs.Contents.{Branch, is_conditional}
use Rattle.cil_macros.specs.declared.branches.Branch as found
use Rattle.cil_macros.specs.Nesting.{branch_in}
use Rattle.cil_macros.specs.Placed.{Placed, condition_there}

-- what is at the first place is in the branch in which what is at the second place is
abbrev pub HasBranchOf : List Placed → ℕ → ℕ → Type 0
HasBranchOf ps at place = (p q : Placed) → slice_get ps at ≡ Some p → slice_get ps place ≡ Some q → p.standing.branch ≡ q.standing.branch

-- the branch is one of the booleanif at a lower place
pub record IsBranchThere (ws : List Written) (ps : List Placed) (at : ℕ) (branch : Option Branch) (b : found.Branch) : Type 0 where
  pub lower : b.at < at
  pub booleanif : Placed
  pub is : slice_get ps b.at ≡ Some booleanif
  pub conditional : is_conditional booleanif.standing.statement.statement.keyword ≡ true
  pub so : branch ≡ Some (condition_there ws booleanif, b.value)

-- in which branch what is at a place is, if in one
abbrev pub SaysBranch : List Written → List Placed → ℕ → Option found.Branch → Type 0
SaysBranch ws ps at o =
    (p : Placed) → slice_get ps at ≡ Some p → MatchOption o (p.standing.branch ≡ None) (IsBranchThere ws ps at p.standing.branch)

-- a value says that what is at the second place has that of a branch of the booleanif at the first; none, that it is in the branch
-- in which its opener is
abbrev pub SaysItsBranch : List Written → Placed → Placed → Option Bool → Type 0
SaysItsBranch ws opener p o =
    MatchOption o (branch_in ws opener p.standing.statement.statement.at ≡ opener.standing.branch)
    (λ value. (is_conditional opener.standing.statement.statement.keyword ≡ true)
    × (branch_in ws opener p.standing.statement.statement.at ≡ Some (condition_there ws opener, value)))

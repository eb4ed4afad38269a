-- What is round what is placed: the innermost optional, as it is kept, by one more than its place, or 0; and the branch, which is
-- found by the openers.
use Rattle.std.specs.Prelude.{◌≡◌, ℕ, ◌<◌, ◌≤◌, if◌then◌else◌, List, [], ◌∷◌, map, take, Option, Some, None, slice_get}
use Rattle.cil_faults.specs.declared.spot.Spot.{Spot}
use Rattle.cil_syntax.specs.Written.{Written}
use Rattle.cil_blocks.specs.Branches.{branch_value}
use Rattle.cil_blocks.specs.Contents.{Branch, is_conditional, is_optional}
use Rattle.cil_blocks.specs.Named.{rank}
use Rattle.cil_macros.specs.Item.{front}
use Rattle.cil_macros.specs.Placed.{Placed, condition_there}
use Rattle.cil_macros.specs.Rounds.{round_of}

-- one more than the place of the innermost optional round it, among all that is placed; 0 where it is in none
abbrev pub innermost_rank : List Placed → Placed → ℕ
innermost_rank ps p = rank (front (round_of ps p))

-- the number of the innermost optional round what is at a place, if something is
abbrev pub innermost_in : List Placed → Option Placed → Option ℕ
innermost_in ps None = None
innermost_in ps (Some p) = front (round_of ps p)

-- those of the first so many. An optional comes before what it opens
pub record AreInnermost (ps : List Placed) (many : ℕ) (numbers : List ℕ) : Type 0 where
  pub so : numbers ≡ map (innermost_rank ps) (take many ps)
  pub lower : (i n : ℕ) → slice_get numbers i ≡ Some n → n ≤ i

-- the optionals round what is placed, and itself where it is one
abbrev pub round_in : Placed → List (List Spot)
round_in p = if is_optional p.standing.statement.statement.keyword then p.standing.trail ∷ p.standing.round else p.standing.round

-- the branch of what something opens, by where that is written: one of the opener, if that is a booleanif
abbrev pub branch_in : List Written → Placed → Spot → Option Branch
branch_in ws p at =
    if is_conditional p.standing.statement.statement.keyword
    then Some (condition_there ws p, branch_value p.standing.statement.statement.args at)
    else p.standing.branch

-- what is placed there was opened by what is placed at a lower place
pub record IsOpenedThere (ws : List Written) (ps : List Placed) (at place : ℕ) : Type 0 where
  pub lower : place < at
  pub opener : Placed
  pub is : slice_get ps place ≡ Some opener
  pub round : (p : Placed) → slice_get ps at ≡ Some p → p.standing.round ≡ round_in opener
  pub branch : (p : Placed) → slice_get ps at ≡ Some p → p.standing.branch ≡ branch_in ws opener p.standing.statement.statement.at

-- what is placed there is in no optional and in no branch
abbrev pub IsOutside : List Placed → ℕ → Type 0
IsOutside ps at = (p : Placed) → slice_get ps at ≡ Some p → (p.standing.round ≡ []) × (p.standing.branch ≡ None)

-- The optionals round what is placed, by their numbers: the number of an optional is its place among all that is placed. This
-- project's profile.
use Rattle.std.specs.Prelude.{◌≡◌, ℕ, Bool, true, false, ◌&&◌, List, [], ◌∷◌, map, Contains, Some, slice_get}
use Rattle.std.specs.List.{position_or_len}
use Rattle.cil_faults.specs.declared.spot.Spot.{Spot}
use Rattle.cil_blocks.specs.Contents.{is_optional, same_spot}
use Rattle.cil_macros.specs.Item.{Item}
use Rattle.cil_macros.specs.Placed.{Placed}

-- two came through the same statements
unfoldable pub same_trail : List Spot → List Spot → Bool
same_trail [] [] = true
same_trail [] (q ∷ qs) = false
same_trail (p ∷ ps) [] = false
same_trail (p ∷ ps) (q ∷ qs) = same_spot p q && same_trail ps qs

-- the place of what came through these statements
unfoldable pub number_of : List Placed → List Spot → ℕ
number_of ps trail = position_or_len (λ (p : Placed). same_trail p.standing.trail trail) ps

-- the numbers of the optionals round what is placed, the innermost first
abbrev pub round_of : List Placed → Placed → List ℕ
round_of ps p = map (number_of ps) p.standing.round

-- each optional round a statement is an optional among these, round which are the optionals that are left
abbrev pub AreNested : List Item → Type 0
AreNested xs =
    (x : Item) (o : ℕ) (os : List ℕ) → Contains xs x → x.round ≡ o ∷ os
    → (y : Item) × (slice_get xs o ≡ Some y) × (is_optional y.keyword ≡ true) × (y.round ≡ os)

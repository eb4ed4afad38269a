-- What is true of every policy with levels.
use Rattle.std.specs.Prelude.{◌≡◌, List}
use Rattle.cil_macros.specs.Item.{Item, OptSet}
use Rattle.cil_ranges.specs.Levels.{Ground}
use Rattle.cil_ranges.specs.Steps.{IsGround}

-- the levels of a policy rest on one ground alone
abbrev pub HasOneGround : Type 0
HasOneGround = (xs : List Item) (s : OptSet) (g h : Ground) → IsGround xs s g → IsGround xs s h → g ≡ h

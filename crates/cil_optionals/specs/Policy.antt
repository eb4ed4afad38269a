-- The policy of modules: their statements, and the optionals of these that are in force. CIL Reference Guide, "Container
-- Statements", "optional"; which optionals are in force is this project's profile.
use Rattle.std.specs.Prelude.{ℕ, List}
use Rattle.cil_macros.specs.Item.{Item, OptSet}
use Rattle.cil_macros.specs.Items.{AreItems}
use Rattle.cil_optionals.specs.Greatest.{IsGreatest}

-- the items of modules, and the greatest set of their optionals
pub record ArePolicy (modules : List (List ℕ)) (xs : List Item) (s : OptSet) : Type 0 where
  pub are_items : AreItems modules xs
  pub greatest : IsGreatest xs s

-- What the reasons of a right choice name. No other crate needs these words.
use Rattle.std.specs.Prelude.{◌≡◌, ◌<◌, true, List, length}
use Rattle.cil_macros.specs.Item.{Item}
use Rattle.cil_optionals.specs.declared.reason.Reason.{Reason}
use Rattle.cil_optionals.specs.declared.reason.Reason.TheVariants.{Missing, ParentOut}
use Rattle.cil_optionals.specs.Certificate.{left_out}
use Rattle.cil_optionals.specs.Greatest.{is_optional_at}

-- the statement of the missing word of a reason is there
abbrev pub HasStatement : List Item → Reason → Type 0
HasStatement xs (ParentOut o) = Unit {0}
HasStatement xs (Missing o i j) = i < length xs

-- a reason leaves out an optional of some items, and its statement is one of them
pub record IsOfItems (xs : List Item) (r : Reason) : Type 0 where
  pub optional : is_optional_at xs (left_out r) ≡ true
  pub statement : HasStatement xs r

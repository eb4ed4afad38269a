-- The one order of the numbers below a count, where edges say which number is below which.
use Rattle.std.specs.Prelude.{ℕ, ◌<◌, List}
use Rattle.cil_settle.specs.declared.edge.Edge.{Edge}
use Rattle.cil_settle.specs.Cycles.{Leads}
use Rattle.cil_mls.specs.Orders.{IsOneOrder}

-- the items are the numbers below a count
abbrev pub IsBelow : ℕ → ℕ → Type 0
IsBelow count u = u < count

-- the edges fix this order alone
abbrev pub IsFixed : ℕ → List Edge → List ℕ → Type 0
IsFixed count edges row = IsOneOrder (IsBelow count) (Leads edges) row

-- they fix no order, or leave several
abbrev pub IsNotFixed : ℕ → List Edge → Type 0
IsNotFixed count edges = (row : List ℕ) → IsFixed count edges row → ⊥

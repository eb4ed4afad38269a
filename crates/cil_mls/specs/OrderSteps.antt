-- How the one order is found. No other crate needs these words.
use Rattle.std.specs.Prelude.{◌≡◌, ℕ, suc, ◌<◌, ◌==◌, true, List, Contains, length}
use Rattle.std.specs.List.{count_by}
use Rattle.std.proofs.Common.{get_or}
use Rattle.cil_base.specs.Among.{among}
use Rattle.cil_settle.specs.declared.edge.Edge.{Edge}
use Rattle.cil_settle.specs.Cycles.{Leads}

-- for each number below a count how many edges lead to it
pub record IsCounted (edges : List Edge) (count : ℕ) (need : List ℕ) : Type 0 where
  pub len : length need ≡ count
  pub each : (u : ℕ) → u < count → get_or need u 0 ≡ count_by (λ e. e.to == u) edges

-- each number below a count is in the list
abbrev pub HasAll : ℕ → List ℕ → Type 0
HasAll count order = (u : ℕ) → u < count → among order u ≡ true

-- an edge leads from each number of the list to the next
abbrev pub AreNeighbours : List Edge → List ℕ → Type 0
AreNeighbours edges order = (i : ℕ) → suc i < length order → Leads edges (get_or order i 0) (get_or order (suc i) 0)

-- one of the edges leads to the number
abbrev pub HasEdgeTo : List Edge → ℕ → Type 0
HasEdgeTo edges v = (e : Edge) × Contains edges e × (e.to ≡ v)

-- What is reached from some nodes. No other crate needs these words.
use Rattle.std.specs.Prelude.{◌≡◌, ◌⊎◌, ◌↔◌, ℕ, ◌<◌, ◌≤◌, Bool, true, false, List, length, get_or}
use Rattle.cil_settle.specs.declared.edge.Edge.{Edge}
use Rattle.cil_settle.specs.Cycles.{Reaches}

-- the search begins at this node
abbrev pub IsStart : List ℕ → ℕ → Type 0
IsStart need v = (v < length need) × (get_or need v 0 ≡ 0)

-- a start, or reached from one
abbrev pub IsReached : List Edge → List ℕ → ℕ → Type 0
IsReached edges need v = IsStart need v ⊎ ((s : ℕ) × IsStart need s × Reaches edges s v)

-- the flags are those of the nodes that are reached
pub record AreReached (edges : List Edge) (need : List ℕ) (flags : List Bool) : Type 0 where
  pub len : length flags ≡ length need
  pub each : (v : ℕ) → v < length need → (get_or flags v false ≡ true) ↔ IsReached edges need v

-- each node is a start or not
abbrev pub AreStarts : List ℕ → Type 0
AreStarts need = (v : ℕ) → v < length need → get_or need v 0 ≤ 1

-- The plain way, a search for each node. No other crate needs these words.
use Rattle.std.specs.Prelude.{◌≡◌, ◌↔◌, ℕ, ◌<◌, ◌≤◌, Bool, true, false, List, length, get_or}
use Rattle.std.specs.List.{count_by}
use Rattle.cil_settle.specs.declared.edge.Edge.{Edge}
use Rattle.cil_settle.specs.Cycles.{Leads, Reaches}

abbrev pub is_set : Bool → Bool
is_set b = b

-- the search begins at the nodes to which an edge leads from this one
pub record AreStartsOf (edges : List Edge) (nodes node : ℕ) (need : List ℕ) : Type 0 where
  pub len : length need ≡ nodes
  pub few : (v : ℕ) → v < nodes → get_or need v 0 ≤ 1
  pub each : (v : ℕ) → v < nodes → (get_or need v 0 ≡ 0) ↔ Leads edges node v

-- the flags are those of the nodes that this one reaches
pub record AreBehind (edges : List Edge) (nodes node : ℕ) (flags : List Bool) : Type 0 where
  pub len : length flags ≡ nodes
  pub each : (v : ℕ) → v < nodes → (get_or flags v false ≡ true) ↔ Reaches edges node v

-- the first so many nodes are judged: whether each reaches itself, and how many it reaches
pub record AreCounted (edges : List Edge) (nodes n : ℕ) (on : List Bool) (ranks : List ℕ) : Type 0 where
  pub on_len : length on ≡ n
  pub ranks_len : length ranks ≡ n
  pub each : (v : ℕ) → v < n → (flags : List Bool) × AreBehind edges nodes v flags × (get_or on v false ≡ get_or flags v false) × (get_or ranks v 0 ≡ count_by is_set flags)

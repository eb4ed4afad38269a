-- Laws that fix the definitions of what goes out, and of what flows.
use Rattle.std.specs.Prelude.{◌≡◌, ◌↔◌, ◌⊎◌, ℕ, ◌<◌, ◌≤◌, true, List, IsBitSet, length, count_by}
use Rattle.cil_settle.specs.declared.edge.Edge.{Edge}
use Rattle.cil_base.specs.Among.{among}
use Rattle.cil_settle.specs.Cycles.{Reaches}
use Rattle.cil_settle.specs.Settled.{hits, is_counted, needs, IsSettled, walked}
use Rattle.cil_settle.specs.Spread.{Flows, mask_at}

-- each node that has lost what it needs, where these are out, is one of these
abbrev pub IsClosed : List Edge → List ℕ → List ℕ → Type 0
IsClosed edges need out = (u : ℕ) → u < length need → needs need u ≤ hits edges out u → among out u ≡ true

-- what goes out is the least closed set of nodes
abbrev pub IsLeast : Type 0
IsLeast =
    (edges : List Edge) (need order : List ℕ) → IsSettled edges need order
    → IsClosed edges need order × ((out : List ℕ) → IsClosed edges need out → (u : ℕ) → among order u ≡ true → among out u ≡ true)

-- two settled orders have the same nodes, and the same look-ups
abbrev pub HasOneSet : Type 0
HasOneSet =
    (edges : List Edge) (need a b : List ℕ) → IsSettled edges need a → IsSettled edges need b
    → ((u : ℕ) → among a u ≡ among b u) × (walked edges a ≡ walked edges b)

-- there are no more look-ups than counted edges
abbrev pub IsBounded : Type 0
IsBounded = (edges : List Edge) (out : List ℕ) → walked edges out ≤ count_by is_counted edges

-- a node has the bits that it starts with, and those of every node from which a path leads to it
abbrev pub FlowsAlongPaths : Type 0
FlowsAlongPaths =
    (edges : List Edge) (start : List ℕ) (v bit : ℕ)
    → Flows edges start v bit ↔ (IsBitSet (mask_at start v) bit ⊎ ((u : ℕ) × IsBitSet (mask_at start u) bit × Reaches edges u v))

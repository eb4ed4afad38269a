-- What the walk keeps: how many supports each node has left, and which nodes are out.
use Rattle.std.specs.Prelude.{◌≡◌, ◌⊎◌, ℕ, zero, suc, ◌+◌, ◌<◌, ◌≤◌, Bool, true, false, ◌==◌, List, ◌++◌, length, take}
use Rattle.std.specs.List.{count_by, filter}
use Rattle.std.proofs.Common.{get_or, cond}
use Rattle.cil_settle.specs.declared.edge.Edge.{Edge}
use Rattle.cil_base.specs.Among.{among}
use Rattle.cil_settle.specs.Settled.{hits, needs}

-- the edges that leave a node
abbrev pub leaving : ℕ → List Edge → List Edge
leaving v edges = filter (λ e. e.from == v) edges

-- how many edges lead to a node
abbrev pub into : ℕ → List Edge → ℕ
into u edges = count_by (λ e. e.to == u) edges

abbrev pub no_hits : ℕ → ℕ
no_hits u = 0

-- this node has lost one support more
abbrev pub one_more : (ℕ → ℕ) → ℕ → ℕ → ℕ
one_more h to u = h u + cond (to == u) 1 0

-- the supports over these edges are lost too
abbrev pub plus : (ℕ → ℕ) → List Edge → ℕ → ℕ
plus h edges u = h u + into u edges

-- a node is out and has lost what it needs, or it is in and has so many left
abbrev pub IsAtNode : (need h left : ℕ) → Bool → Type 0
IsAtNode need h left is_out = ((left ≡ 0) × (need ≤ h) × (is_out ≡ true)) ⊎ ((0 < left) × (left + h ≡ need) × (is_out ≡ false))

abbrev pub is_left : ℕ → Bool
is_left zero = false
is_left (suc k) = true

-- where each node u has lost h u supports. The nodes that are out and those with some left are all nodes
pub record IsAt (need h : ℕ → ℕ) (left order : List ℕ) : Type 0 where
  pub each : (u : ℕ) → u < length left → IsAtNode (need u) (h u) (get_or left u 0) (among order u)
  pub within : (i : ℕ) → i < length order → get_or order i 0 < length left
  pub fresh : (i : ℕ) → i < length order → among (take i order) (get_or order i 0) ≡ false
  pub room : length order + count_by is_left left ≡ length left

-- whatever each node needs and had lost before, it has lost more
abbrev pub Loses : ((ℕ → ℕ) → ℕ → ℕ) → (left0 order0 left order : List ℕ) → Type 0
Loses more left0 order0 left order = (need h : ℕ → ℕ) → IsAt need h left0 order0 → IsAt need (more h) left order

-- after the edges of one node
pub record IsLowered (left0 order0 : List ℕ) (edges : List Edge) (left order : List ℕ) : Type 0 where
  pub at : Loses (λ h. plus h edges) left0 order0 left order
  pub grows : (more : List ℕ) × (order ≡ order0 ++ more)
  pub len : length left ≡ length left0

-- after the first i nodes were looked at: those that can lose nothing are out
pub record IsStarted (left order : List ℕ) (i : ℕ) : Type 0 where
  pub each : (u : ℕ) → u < i → ((get_or left u 0 ≡ 0) × (among order u ≡ true)) ⊎ ((0 < get_or left u 0) × (among order u ≡ false))
  pub within : (k : ℕ) → k < length order → get_or order k 0 < i
  pub fresh : (k : ℕ) → k < length order → among (take k order) (get_or order k 0) ≡ false
  pub room : length order + count_by is_left (take i left) ≡ i

-- after the edges of the first nodes of the order
pub record IsWalked (edges : List Edge) (need left order : List ℕ) (next : ℕ) : Type 0 where
  pub at : IsAt (needs need) (hits edges (take next order)) left order
  pub each : (i : ℕ) → i < length order → needs need (get_or order i 0) ≤ hits edges (take i order) (get_or order i 0)
  pub len : length left ≡ length need
  pub done : next ≤ length order

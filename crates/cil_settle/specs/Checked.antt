-- A guess that is checked: roots of parts, and ranks. No other crate needs these words.
use Rattle.std.specs.Prelude.{◌≡◌, ◌⊎◌, ◌↔◌, ℕ, ◌<◌, ◌≤◌, Bool, true, false, List, Contains, length, get_or}
use Rattle.cil_settle.specs.declared.edge.Edge.{Edge}
use Rattle.cil_settle.specs.Cycles.{Leads}
use Rattle.cil_settle.specs.Reached.{AreReached}

-- both ends of the edge are in one part, and have one rank
abbrev pub IsInner : List ℕ → List ℕ → Edge → Type 0
IsInner roots ranks e = (get_or roots e.from 0 ≡ get_or roots e.to 0) × (get_or ranks e.from 0 ≡ get_or ranks e.to 0)

-- each edge stays in a part, or falls
abbrev pub AreSteady : List Edge → List ℕ → List ℕ → Type 0
AreSteady edges roots ranks = (e : Edge) → Contains edges e → IsInner roots ranks e ⊎ (get_or ranks e.to 0 < get_or ranks e.from 0)

-- the edges that stay in a part
abbrev pub AreInner : List Edge → List ℕ → List ℕ → List Edge → Type 0
AreInner edges roots ranks inner = (e : Edge) → Contains inner e ↔ (Contains edges e × IsInner roots ranks e)

-- an edge turned round is among the others
pub record AreTurned (edges turned : List Edge) : Type 0 where
  pub there : (a b : ℕ) → Leads edges a b → Leads turned b a
  pub back : (a b : ℕ) → Leads turned b a → Leads edges a b

-- the search begins at the roots: the nodes that are their own
pub record AreRoots (nodes : ℕ) (roots need : List ℕ) : Type 0 where
  pub len : length need ≡ nodes
  pub few : (v : ℕ) → v < nodes → get_or need v 0 ≤ 1
  pub each : (v : ℕ) → v < nodes → get_or need v 0 ≡ 0 → get_or roots v 0 ≡ v

-- each inner edge begins where its part is reached from the root, and ends where the root is reached
abbrev pub AreCovered : List Edge → List Bool → List Bool → Type 0
AreCovered inner forward backward = (e : Edge) → Contains inner e → (get_or forward e.from false ≡ true) × (get_or backward e.to false ≡ true)

-- the flags are those of the nodes that some edge leaves
pub record AreLeaving (edges : List Edge) (nodes : ℕ) (flags : List Bool) : Type 0 where
  pub len : length flags ≡ nodes
  pub each : (v : ℕ) → v < nodes → (get_or flags v false ≡ true) ↔ ((b : ℕ) × Leads edges v b)

-- each part is reached from its root, and reaches it
pub record IsWhole (inner : List Edge) (nodes : ℕ) (roots : List ℕ) : Type 0 where
  pub turned : List Edge
  pub need_forward : List ℕ
  pub need_backward : List ℕ
  pub forward : List Bool
  pub backward : List Bool
  pub are_turned : AreTurned inner turned
  pub roots_forward : AreRoots nodes roots need_forward
  pub roots_backward : AreRoots nodes roots need_backward
  pub reached_forward : AreReached inner need_forward forward
  pub reached_backward : AreReached turned need_backward backward
  pub covered : AreCovered inner forward backward

-- Class permissions and map permissions by numbers: which masks statements give them. CIL Reference Guide, "Class and Permission
-- Statements".
use Rattle.std.specs.Prelude.{◌≡◌, ◌↔◌, ◌⊎◌, ℕ, ◌<◌, false, List, Contains, IsBitSet, length, map}
use Rattle.std.specs.List.{flat_map}
use Rattle.cil_settle.specs.declared.edge.Edge.{Edge}
use Rattle.cil_settle.specs.Spread.{mask_at}
use Rattle.cil_classes.specs.declared.assigned.Given.{Given}

-- the node has this bit of this class: a statement gives it, or one gives what a node has that has it
pub data Has (givens : List Given) (class_ : ℕ) : (node bit : ℕ) → Type 0 where
  own : (g : Given) (bit : ℕ) → Contains givens g → g.part.class ≡ class_ → IsBitSet g.part.mask bit → Has givens class_ g.to bit
  through : (g : Given) (v bit : ℕ) → Contains givens g → Contains g.part.from.items v → Has givens class_ v bit → Has givens class_ g.to bit

-- the masks of a class, one for each node
pub record AreMasks (givens : List Given) (class_ count : ℕ) (masks : List ℕ) : Type 0 where
  pub len : length masks ≡ count
  pub bits : (v bit : ℕ) → IsBitSet (mask_at masks v) bit ↔ Has givens class_ v bit

-- what is given goes to a node, of so many
abbrev pub IsWithin : ℕ → Given → Type 0
IsWithin count g = g.to < count

-- each edge is of some statement: from a node whose permissions it gives, to the node that is given them
pub record AreEdges (givens : List Given) (edges : List Edge) : Type 0 where
  pub each : (g : Given) (v : ℕ) → Contains givens g → Contains g.part.from.items v → (e : Edge) × Contains edges e × (e.from ≡ v) × (e.to ≡ g.to)
  pub only : (e : Edge) → Contains edges e → (g : Given) × Contains givens g × Contains g.part.from.items e.from × (e.to ≡ g.to)

-- a statement gives the node this bit of this class by itself
pub record IsOwn (givens : List Given) (class_ v bit : ℕ) : Type 0 where
  pub given : Given
  pub is_given : Contains givens given
  pub of_class : given.part.class ≡ class_
  pub to : given.to ≡ v
  pub set : IsBitSet given.part.mask bit

-- what nodes are given by themselves
pub record AreStarted (givens : List Given) (class_ count : ℕ) (masks : List ℕ) : Type 0 where
  pub len : length masks ≡ count
  pub bits : (v bit : ℕ) → IsBitSet (mask_at masks v) bit ↔ IsOwn givens class_ v bit

-- one statement more
pub record IsAdded (class_ : ℕ) (g : Given) (masks more : List ℕ) : Type 0 where
  pub len : length more ≡ length masks
  pub bits : (v bit : ℕ) → IsBitSet (mask_at more v) bit ↔ (IsBitSet (mask_at masks v) bit ⊎ ((g.part.class ≡ class_) × (g.to ≡ v) × IsBitSet g.part.mask bit))

-- edges were put behind others: one from each of some nodes to a node
abbrev pub edge_to : ℕ → ℕ → Edge
edge_to to v = record { from = v; to = to; counted = false }

abbrev pub edges_to : ℕ → List ℕ → List Edge
edges_to to from = map (edge_to to) from

abbrev pub all_edges : List Given → List Edge
all_edges givens = flat_map (λ g. edges_to g.to g.part.from.items) givens

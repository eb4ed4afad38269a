-- Steps from statement to statement, by their numbers: what a search for cycles goes along.
use Rattle.std.specs.Prelude.{◌≡◌, ◌⊎◌, ◌↔◌, ℕ, ◌<◌, Bool, true, false, List, [], length, get_or, Contains}
use Rattle.cil_settle.specs.declared.edge.Edge.{Edge}
use Rattle.cil_settle.specs.Cycles as graph
use Rattle.cil_syntax.specs.Written.{Written}
use Rattle.cil_blocks.specs.declared.parts.Parts.{Parts}
use Rattle.cil_blocks.specs.declared.targets.Targets.{Targets}
use Rattle.cil_blocks.specs.Contents.{is_inheriting}
use Rattle.cil_blocks.specs.Entries.{parts_at, statement_at}
use Rattle.cil_blocks.specs.Leads.{IsOnCycle}
use Rattle.cil_blocks.specs.Named.{targets_in}

-- the numbers are those of the blockinherits that lie on a cycle
abbrev pub AreOnCycles : List Written → List ℕ → Type 0
AreOnCycles ws numbers =
    (i : ℕ) → Contains numbers i ↔ ((i < length ws) × (is_inheriting (statement_at ws i).statement.keyword ≡ true) × IsOnCycle ws (statement_at ws i))

-- ---- steps: from a statement to those in it, and from a blockinherit to its targets

abbrev pub IsStep : Parts → Targets → ℕ → ℕ → Type 0
IsStep ps ts q k = Contains (parts_at ps q) k ⊎ Contains (targets_in ts q) k

-- one statement leads to another by some number of steps
pub data Reaches (ps : Parts) (ts : Targets) (from : ℕ) : ℕ → Type 0 where
  itself : Reaches ps ts from from
  onward : (q k : ℕ) → Reaches ps ts from q → IsStep ps ts q k → Reaches ps ts from k

-- each step leads to one of the first so many
abbrev pub StayBelow : Parts → Targets → ℕ → Type 0
StayBelow ps ts n = (q k : ℕ) → IsStep ps ts q k → k < n

-- a step, and then some number of steps, lead from one statement to another
pub record Follows (ps : Parts) (ts : Targets) (a c : ℕ) : Type 0 where
  pub next : ℕ
  pub is_step : IsStep ps ts a next
  pub further : Reaches ps ts next c

-- a statement leads to itself by a step or more
abbrev pub ComesBack : Parts → Targets → ℕ → Type 0
ComesBack ps ts i = Follows ps ts i i

-- none of the first so many statements does
abbrev pub NoneComesBack : Parts → Targets → ℕ → Type 0
NoneComesBack ps ts n = (i : ℕ) → i < n → ComesBack ps ts i → ⊥

-- the flags are those of the statements that do
abbrev pub AreFlags : Parts → Targets → ℕ → List Bool → Type 0
AreFlags ps ts n flags = (i : ℕ) → i < n → (get_or flags i false ≡ true) ↔ ComesBack ps ts i

abbrev pub HasTarget : Targets → ℕ → Type 0
HasTarget ts i = targets_in ts i ≡ [] → ⊥

-- the statement has a target, and comes back
abbrev pub HasWayBack : Parts → Targets → ℕ → Type 0
HasWayBack ps ts i = HasTarget ts i × ComesBack ps ts i

-- the numbers are those of the first so many statements that are so
abbrev pub HaveWayBack : Parts → Targets → ℕ → List ℕ → Type 0
HaveWayBack ps ts n found = (i : ℕ) → Contains found i ↔ ((i < n) × HasWayBack ps ts i)

-- ---- levels

abbrev pub level_at : List ℕ → ℕ → ℕ
level_at levels k = get_or levels k 0

-- along each step from one of the first so many statements the level falls
abbrev pub Fall : Parts → Targets → ℕ → List ℕ → Type 0
Fall ps ts n levels = (q k : ℕ) → q < n → IsStep ps ts q k → level_at levels k < level_at levels q

-- ---- the steps as edges of a graph

abbrev pub edge_from : ℕ → ℕ → Edge
edge_from from to = record { from = from; to = to; counted = false }

-- the edges are the steps from the first so many statements
pub record AreSteps (ps : Parts) (ts : Targets) (n : ℕ) (edges : List Edge) : Type 0 where
  pub all : (q k : ℕ) → q < n → IsStep ps ts q k → graph.Leads edges q k
  pub only : (q k : ℕ) → graph.Leads edges q k → (q < n) × IsStep ps ts q k

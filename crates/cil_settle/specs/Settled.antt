-- Which nodes of a graph go out, and in what order: a node goes out once it has lost as many supports as it needs.
-- This project's profile.
use Rattle.std.specs.Prelude.{◌≡◌, ℕ, ◌<◌, ◌≤◌, Bool, false, ◌&&◌, ◌==◌, List, length, take}
use Rattle.std.specs.List.{count_by}
use Rattle.std.proofs.Common.{get_or}
use Rattle.cil_settle.specs.declared.edge.Edge.{Edge}
use Rattle.cil_base.specs.Among.{among}

-- how many supports a node has lost where these are out
unfoldable pub hits : List Edge → List ℕ → ℕ → ℕ
hits edges out u = count_by (λ e. (e.to == u) && among out e.from) edges

-- how many supports a node has to lose before it goes out
abbrev pub needs : List ℕ → ℕ → ℕ
needs need u = get_or need u 0

-- the order in which nodes go out: each is a node and goes out once; each has lost what it needs by those before it;
-- and no other node has lost what it needs
pub record IsSettled (edges : List Edge) (need order : List ℕ) : Type 0 where
  pub within : (i : ℕ) → i < length order → get_or order i 0 < length need
  pub fresh : (i : ℕ) → i < length order → among (take i order) (get_or order i 0) ≡ false
  pub each : (i : ℕ) → i < length order → needs need (get_or order i 0) ≤ hits edges (take i order) (get_or order i 0)
  pub rest : (u : ℕ) → u < length need → among order u ≡ false → hits edges order u < needs need u

abbrev pub is_counted : Edge → Bool
is_counted e = e.counted

-- how many look-ups are made where these are out: one for each counted edge that leaves one of them
unfoldable pub walked : List Edge → List ℕ → ℕ
walked edges out = count_by (λ e. is_counted e && among out e.from) edges

-- the edge leads to a node, of so many
abbrev pub leads_within : ℕ → Edge → Type 0
leads_within n e = e.to < n

-- Which sets depend on themselves, by the words of the expressions that they are given. No other crate needs these words.
use Rattle.std.specs.Prelude.{◌≡◌, ℕ, ◌<◌, Bool, true, false, get_or, if◌then◌else◌, List, [], ◌∷◌, Contains, Option, Some, None, slice_get}
use Rattle.std.specs.List.{flat_map}
use Rattle.std.specs.Option.{option_map_or}
use Rattle.cil_settle.specs.declared.edge.Edge.{Edge}
use Rattle.cil_attrs.specs.declared.evaluator.Held.{Held}
use Rattle.cil_attrs.specs.declared.evaluator.Held.TheVariants.{Nothing, Item, Set}
use Rattle.cil_attrs.specs.declared.making.Given.{Given}

abbrev pub is_set : Held → Bool
is_set Nothing = false
is_set (Item n) = false
is_set (Set members) = true

-- the entry of this number holds a set
abbrev pub is_set_at : List Held → ℕ → Bool
is_set_at helds d = option_map_or is_set (slice_get helds d) false

-- ---- what depends on what

-- an expression that the one set is given names the other
pub record Names (helds : List Held) (xs : List Given) (a b : ℕ) : Type 0 where
  pub given : Given
  pub is_given : Contains xs given
  pub set : given.set ≡ a
  pub word : Contains given.words.now (Some b)
  pub is_set : is_set_at helds b ≡ true

-- the one set depends on the other, in one step or more
pub data Depends (helds : List Held) (xs : List Given) : ℕ → ℕ → Type 0 where
  at_once : (a b : ℕ) → Names helds xs a b → Depends helds xs a b
  further : (a b c : ℕ) → Names helds xs a b → Depends helds xs b c → Depends helds xs a c

-- no set depends on itself
abbrev pub IsAcyclic : List Held → List Given → Type 0
IsAcyclic helds xs = (d : ℕ) → Depends helds xs d d → ⊥

-- ranks fall from a set to those that its expressions name
abbrev pub FallFor : List Held → List Given → List ℕ → Type 0
FallFor helds xs ranks = (a b : ℕ) → Names helds xs a b → get_or ranks b 0 < get_or ranks a 0

-- ---- the same as edges

abbrev pub edge_to : List Held → ℕ → Option ℕ → List Edge
edge_to helds from None = []
edge_to helds from (Some to) = if is_set_at helds to then record { from = from; to = to; counted = false } ∷ [] else []

abbrev pub edges_by : List Held → Given → List Edge
edges_by helds x = flat_map (edge_to helds x.set) x.words.now

abbrev pub edges_in : List Held → List Given → List Edge
edges_in helds xs = flat_map (edges_by helds) xs

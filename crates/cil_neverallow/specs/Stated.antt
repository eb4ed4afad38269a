-- Statements with the rules that they give, each by its place among the statements of a policy.
use Rattle.std.specs.Prelude.{◌≡◌, ◌⊎◌, ◌++◌, ◌<◌, ◌≤◌, ℕ, List, [], ◌∷◌, Contains, get_or, length, map, slice_range}
use Rattle.cil_base.specs.Records.{AreRecordsOf}
use Rattle.cil_macros.specs.Item.{Item}
use Rattle.cil_index.specs.rules.Kept.{rule_named}
use Rattle.cil_index.specs.rules.Rule.{Rule}
use Rattle.cil_index.specs.rules.NamedRule.{NamedRule}
use Rattle.cil_neverallow.specs.Permissions.{AreApart}
use Rattle.cil_neverallow.specs.declared.statements.Part.{Part}
use Rattle.cil_neverallow.specs.declared.statements.Run.{Run}

-- a statement by its place, and its rules
pub record Stated : Type 0 where
  pub place : ℕ
  pub rules : List NamedRule

abbrev pub nothing_stated : Stated
nothing_stated = record { place = 0; rules = [] }

abbrev pub stated_at : List Stated → ℕ → Stated
stated_at sts k = get_or sts k nothing_stated

-- statements with their rules, where these are the sets of declared names: each of the first n statements that has a case is among them,
-- and the rules of each are those of its cases
pub record AreStatements {K : Type 0} (asked : Item → K → Type 0) (gives : K → Rule → Type 0) (sets : List (List ℕ)) (at : ℕ → Item) (n : ℕ) (sts : List Stated) : Type 0 where
  pub each : (st : Stated) → Contains sts st → AreRecordsOf asked gives (at st.place ∷ []) (map (rule_named [] sets) st.rules)
  pub all : (place : ℕ) (k : K) → place < n → asked (at place) k → (st : Stated) × Contains sts st × (st.place ≡ place)

-- ---- private words

-- some statements are kept, and any other has no rule with one of these permissions
pub record Keeps (masks : List ℕ) (all kept : List Stated) : Type 0 where
  pub among : (st : Stated) → Contains kept st → Contains all st
  pub rest : (st : Stated) → Contains all st → Contains kept st ⊎ AreApart masks st.rules

-- these are kept of the statements with their rules, each of which is one of the first n
pub record AreKept {K : Type 0} (masks : List ℕ) (asked : Item → K → Type 0) (gives : K → Rule → Type 0) (sets : List (List ℕ)) (at : ℕ → Item) (n : ℕ) (kept : List Stated) : Type 0 where
  pub all : List Stated
  pub within : (st : Stated) → Contains all st → st.place < n
  pub are : AreStatements asked gives sets at n all
  pub keeps : Keeps masks all kept

-- the statement at a place, which may have no rules, was put behind those that are kept, or it has no rule with one of these permissions
pub record IsAdded {K : Type 0} (masks : List ℕ) (asked : Item → K → Type 0) (gives : K → Rule → Type 0) (sets : List (List ℕ)) (x : Item) (place : ℕ) (old new : List Stated) : Type 0 where
  pub statement : Stated
  pub stands : statement.place ≡ place
  pub rules : AreRecordsOf asked gives (x ∷ []) (map (rule_named [] sets) statement.rules)
  pub kept : (new ≡ old ++ statement ∷ []) ⊎ ((new ≡ old) × AreApart masks statement.rules)

-- each was there, or is at this place
abbrev pub AreHereOr : List Stated → ℕ → List Stated → Type 0
AreHereOr old place new = (st : Stated) → Contains new st → Contains old st ⊎ (st.place ≡ place)

-- a part of all rules
abbrev pub stated_in : List NamedRule → Run → Stated
stated_in rules run = record { place = run.place; rules = slice_range rules run.from run.to }

abbrev pub stated_of : Part → Stated
stated_of p = record { place = p.place; rules = p.rules.now }

pub record IsRunIn (rules : List NamedRule) (run : Run) : Type 0 where
  pub forward : run.from ≤ run.to
  pub within : run.to ≤ length rules

abbrev pub AreRunsIn : List NamedRule → List Run → Type 0
AreRunsIn rules runs = (run : Run) → Contains runs run → IsRunIn rules run

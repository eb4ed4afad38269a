-- The types that two rules reach together, and the least of them. No other crate needs these words.
use Rattle.std.specs.Prelude.{◌≡◌, ◌⊎◌, ℕ, ◌<◌, ◌≤◌, List, Contains}
use Rattle.cil_index.specs.rules.Covers.{Reaches}
use Rattle.cil_index.specs.rules.Rule.{Rule}
use Rattle.cil_neverallow.specs.declared.overlap.Climb.{Climb}
use Rattle.cil_neverallow.specs.declared.overlap.Ends.{Ends}

-- the least number that is such
pub record IsLeastIn (P : ℕ → Type 0) (n : ℕ) : Type 0 where
  pub is : P n
  pub least : (m : ℕ) → P m → n ≤ m

-- both sets have the type
pub record AreInBoth (first second : List ℕ) (t : ℕ) : Type 0 where
  pub in_first : Contains first t
  pub in_second : Contains second t

-- three sets have the type
pub record AreInAll (first second third : List ℕ) (t : ℕ) : Type 0 where
  pub in_first : Contains first t
  pub in_second : Contains second t
  pub in_third : Contains third t

-- both rules reach the target from the source
pub record AreReached (r q : Rule) (source target : ℕ) : Type 0 where
  pub first_source : Contains r.source source
  pub second_source : Contains q.source source
  pub first_target : Reaches r.target source target
  pub second_target : Reaches q.target source target

-- the first pair is not behind the second
abbrev pub IsUpTo : ℕ → ℕ → ℕ → ℕ → Type 0
IsUpTo a b c d = (a < c) ⊎ ((a ≡ c) × (b ≤ d))

-- the least source that both have, and with it the least target that both reach
pub record AreFirstReached (r q : Rule) (e : Ends) : Type 0 where
  pub reached : AreReached r q e.source e.target
  pub least : (source target : ℕ) → AreReached r q source target → IsUpTo e.source e.target source target

-- a type as source and as target
abbrev pub end_at : ℕ → Ends
end_at n = record { source = n; target = n }

-- each number that three sets have, from the start on, is not below where a climb ends; and a climb that ends where it began ends at one
pub record IsClimb (first second third : List ℕ) (start : ℕ) (c : Climb) : Type 0 where
  pub up : start ≤ c.from
  pub rest : c.from ≤ c.to
  pub least : (t : ℕ) → AreInAll first second third t → start ≤ t → c.to ≤ t
  pub meets : c.from ≡ c.to → AreInAll first second third c.to

-- The list of what some cases give, in a stated order: for records that hold what was computed of a case, where a set
-- of records would ask for the computed part before the case is known.
use Rattle.std.specs.Prelude.{List, Contains}
use Rattle.std.specs.declared.cmp.Ordering.{Ordering}
use Rattle.std.specs.List.Sorted.{IsStrictlySortedBy}

-- the list rises; each case that is asked for has a record in it, and each record is that of a case
pub record Gives {K X : Type 0} (order : X → X → Ordering) (asked : K → Type 0) (gives : K → X → Type 0) (xs : List X) : Type 0 where
  pub rising : IsStrictlySortedBy order xs
  pub each : (k : K) → asked k → (x : X) × gives k x × Contains xs x
  pub only : (x : X) → Contains xs x → (k : K) × asked k × gives k x

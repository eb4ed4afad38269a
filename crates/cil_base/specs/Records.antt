-- The records of some statements: each case of a statement has one, and each is that of a case.
use Rattle.std.specs.Prelude.{List, Contains, Option, MatchOption}

-- the record of a statement: there is one where it has a case, and it is that of each of its cases
abbrev pub IsRecordOf : {X K Y : Type 0} → (X → K → Type 0) → (K → Y → Type 0) → X → Option Y → Type 0
IsRecordOf {X} {K} asked gives x r = MatchOption r ((k : K) → asked x k → ⊥) (λ y. ((k : K) × asked x k) × ((k : K) → asked x k → gives k y))

-- the records of some statements: each case has one, and each is that of a case
pub record AreRecordsOf {X K Y : Type 0} (asked : X → K → Type 0) (gives : K → Y → Type 0) (xs : List X) (ys : List Y) : Type 0 where
  pub each : (x : X) (k : K) → Contains xs x → asked x k → (y : Y) × gives k y × Contains ys y
  pub only : (y : Y) → Contains ys y → (x : X) × (k : K) × Contains xs x × asked x k × gives k y

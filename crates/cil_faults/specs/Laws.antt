-- Laws of lists of faults: each set has one list. This project's profile.
use Rattle.std.specs.Prelude.{◌≡◌, ◌⊎◌, Bool, true, List, Contains}
use Rattle.cil_base.specs.Lists.{Lists}
use Rattle.cil_faults.specs.declared.fault.Fault.{Fault}
use Rattle.cil_faults.specs.Fails.{AreFaults}
use Rattle.cil_faults.specs.FaultOrder.{fault_cmp}

-- a set of faults has at most one list
abbrev pub HasOneFaultList : Type 0
HasOneFaultList =
    (set : Fault → Bool) (xs ys : List Fault) → Lists fault_cmp (λ f. set f ≡ true) xs → Lists fault_cmp (λ f. set f ≡ true) ys → xs ≡ ys

-- the list of what two lists have is the list of both sets
abbrev pub JoinsBoth : Type 0
JoinsBoth =
    (p q : Fault → Bool) (xs ys both : List Fault) → Lists fault_cmp (λ f. p f ≡ true) xs → Lists fault_cmp (λ f. q f ≡ true) ys
    → Lists fault_cmp (λ f. Contains xs f ⊎ Contains ys f) both → Lists fault_cmp (λ f. (p f ≡ true) ⊎ (q f ≡ true)) both

-- which of two lists comes first does not matter to what they have together
abbrev pub JoinsInAnyOrder : Type 0
JoinsInAnyOrder =
    (xs ys here there : List Fault) → Lists fault_cmp (λ f. Contains xs f ⊎ Contains ys f) here
    → Lists fault_cmp (λ f. Contains ys f ⊎ Contains xs f) there → here ≡ there

-- what `Answers` asks of a step, memory apart: a value, and then the step has no fault; or the list of its faults
pub data Outcome {X : Type 0} (value : X → Type 0) (step : Fault → Type 0) : Type 0 where
  succeeds : (x : X) → value x → ((f : Fault) → step f → ⊥) → Outcome value step
  fails : (faults : List Fault) → AreFaults step faults → Outcome value step

-- What a step answers, as one clause.
use Rattle.std.specs.Prelude.{Result, Ok, Err}
use Rattle.cil_faults.specs.declared.fault.Fault.{Fault}
use Rattle.cil_faults.specs.declared.failure.Failure.{Failure}
use Rattle.cil_faults.specs.declared.failure.Failure.TheVariants.{Faults, NoMemory}
use Rattle.cil_faults.specs.Fails.{AreFaults}

-- the list of the step's faults; want of memory says nothing of them
abbrev pub Fails : (Fault → Type 0) → Failure → Type 0
Fails step (Faults faults) = AreFaults step faults
Fails step NoMemory = Unit {0}

-- the value is as P says and the step has no fault; or the list of the step's faults; or memory ran out
abbrev pub Answers : {X : Type 0} → (X → Type 0) → (Fault → Type 0) → Result X Failure → Type 0
Answers P step (Ok x) = P x × ((f : Fault) → step f → ⊥)
Answers P step (Err failure) = Fails step failure

-- The faults of the first step that has some. This project's profile.
use Rattle.std.specs.Prelude.{◌≡◌, ◌⊎◌, List, [], ◌∷◌}
use Rattle.cil_faults.specs.declared.fault.Fault.{Fault}
use Rattle.cil_faults.specs.Fails.{AreFaults}

-- the faults of the first step that has some; no fault where no step has one
abbrev pub AreFirst : List (Fault → Type 0) → List Fault → Type 0
AreFirst [] faults = faults ≡ []
AreFirst (step ∷ steps) faults = AreFaults step faults ⊎ (((f : Fault) → step f → ⊥) × AreFirst steps faults)

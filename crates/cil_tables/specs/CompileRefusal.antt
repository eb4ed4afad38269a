-- What the compiler answers where there are no tables. This project's profile.
use Rattle.std.specs.Prelude.{ℕ, ◌<◌, ◌⊎◌, List, [], ◌∷◌, length}
use Rattle.cil_faults.specs.declared.failure.Failure.{Failure}
use Rattle.cil_faults.specs.declared.failure.Failure.TheVariants.{Faults, NoMemory}
use Rattle.cil_faults.specs.declared.fault.Fault.{Fault}
use Rattle.cil_faults.specs.Fails.{AreFaults}
use Rattle.cil_macros.specs.Item.{Item, OptSet}
use Rattle.cil_names.specs.Faults.{ClashFault, ResolveFault}
use Rattle.cil_optionals.specs.Greatest.{IsGreatest}
use Rattle.cil_faults.specs.First.{AreFirst}
use Rattle.cil_level_rows.specs.Steps.{LevelStep}
use Rattle.cil_neverallow.specs.NeverFaults.{NeverFault}
use Rattle.cil_tables.specs.SetsStep.{SetsFault}
use Rattle.cil_tables.specs.Faults.{ArePolicyFaults}

-- the faults of the modules, of which there are some; want of memory says nothing of them
abbrev pub CompileFails : List (List ℕ) → Failure → Type 0
CompileFails modules (Faults faults) = ArePolicyFaults modules faults × (0 < length faults)
CompileFails modules NoMemory = Unit {0}

-- the steps over items whose words resolve, in the order in which they are taken
abbrev pub later_steps : List Item → OptSet → List (Fault → Type 0)
later_steps xs s = SetsFault s xs ∷ LevelStep xs s ∷ NeverFault xs s ∷ []

-- the faults of the first of them that has some
abbrev pub LaterFail : List Item → OptSet → Failure → Type 0
LaterFail xs s (Faults faults) = AreFirst (later_steps xs s) faults × (0 < length faults)
LaterFail xs s NoMemory = Unit {0}

-- the steps over items and the optionals that are in force, in the order in which they are taken
abbrev pub set_steps : List Item → OptSet → List (Fault → Type 0)
set_steps xs s = ResolveFault s xs ∷ later_steps xs s

-- the faults of items: of the declarations, or of the first step over the greatest set of optionals
abbrev pub AreItemsFaults : List Item → List Fault → Type 0
AreItemsFaults xs faults =
    AreFaults (ClashFault xs) faults ⊎ (((f : Fault) → ClashFault xs f → ⊥) × ((s : OptSet) × IsGreatest xs s × AreFirst (set_steps xs s) faults))

-- the faults of items, of which there are some
abbrev pub ItemsFail : List Item → Failure → Type 0
ItemsFail xs (Faults faults) = AreItemsFaults xs faults × (0 < length faults)
ItemsFail xs NoMemory = Unit {0}

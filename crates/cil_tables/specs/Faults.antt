-- What is wrong with a policy: the faults of each step, and the first step that has some. This project's profile.
use Rattle.std.specs.Prelude.{ℕ, List, [], ◌∷◌}
use Rattle.cil_base.specs.Lists.{Lists}
use Rattle.cil_faults.specs.declared.fault.Fault.{Fault}
use Rattle.cil_syntax.specs.Written.{IsWritten, ShapeFault, Written, written_cmp}
use Rattle.cil_blocks.specs.Contents.{Standing, Stands, standing_cmp}
use Rattle.cil_blocks.specs.InheritFaults.{InheritStep}
use Rattle.cil_macros.specs.ExpandFaults.{ExpandStep}
use Rattle.cil_names.specs.Faults.{ClashFault, ResolveFault}
use Rattle.cil_macros.specs.Items.{AreItems}
use Rattle.cil_macros.specs.Item.{Item, OptSet}
use Rattle.cil_optionals.specs.Policy.{ArePolicy}
use Rattle.cil_faults.specs.First.{AreFirst}
use Rattle.cil_level_rows.specs.Steps.{LevelStep}
use Rattle.cil_neverallow.specs.NeverFaults.{NeverFault}
use Rattle.cil_tables.specs.SetsStep.{SetsFault}

-- a step over written statements is a step over modules
pub data OfProgram (modules : List (List ℕ)) (step : List Written → Fault → Type 0) : Fault → Type 0 where
  of_program : (program : List Written) (f : Fault) → Lists written_cmp (IsWritten modules) program → step program f → OfProgram modules step f

-- a step over all that stands is a step over modules
pub data OfStandings (modules : List (List ℕ)) (step : List Written → List Standing → Fault → Type 0) : Fault → Type 0 where
  of_standings : (program : List Written) (standings : List Standing) (f : Fault) → Lists written_cmp (IsWritten modules) program
      → Lists standing_cmp (Stands program) standings → step program standings f → OfStandings modules step f

-- a step over items is a step over modules
pub data OfItems (modules : List (List ℕ)) (step : List Item → Fault → Type 0) : Fault → Type 0 where
  of_items : (xs : List Item) (f : Fault) → AreItems modules xs → step xs f → OfItems modules step f

-- a step over items and the optionals that are in force is a step over modules
pub data OfPolicy (modules : List (List ℕ)) (step : List Item → OptSet → Fault → Type 0) : Fault → Type 0 where
  of_policy : (xs : List Item) (s : OptSet) (f : Fault) → ArePolicy modules xs s → step xs s f → OfPolicy modules step f

-- the steps, in the order in which they are taken
abbrev pub steps : List (List ℕ) → List (Fault → Type 0)
steps modules =
    ShapeFault modules ∷ OfProgram modules InheritStep ∷ OfStandings modules ExpandStep ∷ OfItems modules ClashFault ∷ OfPolicy modules (λ xs s. ResolveFault s xs)
    ∷ OfPolicy modules (λ xs s. SetsFault s xs) ∷ OfPolicy modules LevelStep ∷ OfPolicy modules NeverFault ∷ []

-- the faults of modules
abbrev pub ArePolicyFaults : List (List ℕ) → List Fault → Type 0
ArePolicyFaults modules faults = AreFirst (steps modules) faults

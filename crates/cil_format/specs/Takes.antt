-- What the readers of the code answer, in the words of formats.
use Rattle.std.specs.Prelude.{◌≡◌, ℕ, List, Result, Ok, Err}
use Rattle.cil_format.specs.declared.fault.TableError.{TableError}
use Rattle.cil_format.specs.declared.fault.TableError.TheVariants as errors
use Rattle.cil_format.specs.declared.fault.TableFault.{TableFault}

abbrev pub Fails : {Y : Type 0} → TableError → Result Y TableFault → Type 0
Fails errors.NoMemory taken = Unit {0}
Fails (errors.Fault f) taken = taken ≡ Err f

-- what a function returned, seen by a view, is what reading gives, unless memory ran out
abbrev pub Takes : {X Y : Type 0} → (X → Y) → Result X TableError → Result Y TableFault → Type 0
Takes view (Ok x) taken = taken ≡ Ok (view x)
Takes view (Err e) taken = Fails e taken

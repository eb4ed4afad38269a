-- What an error says about the text.
use Rattle.std.specs.Prelude.{ℕ, List}
use Rattle.cil_sexpr.specs.declared.fault.ReadError.{ReadError}
use Rattle.cil_sexpr.specs.declared.fault.ReadError.TheVariants.{Fault, NoMemory}
use Rattle.cil_sexpr.specs.Faults.{FaultOf}

-- the fault is that of the text; out of memory says nothing about it
abbrev pub Refuses : List ℕ → ReadError → Type 0
Refuses text (Fault f) = FaultOf text f.code f.at
Refuses text NoMemory = Unit {0}

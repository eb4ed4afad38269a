-- Faults of a whole policy: an order that is not one, too many items. No other crate needs these words.
use Rattle.std.specs.Prelude.{◌≡◌, ℕ, List, [], Option, None, Some, Result, Ok, Err}
use Rattle.std.specs.Global.{Vec}
use Rattle.cil_faults.specs.Refusal.{Fails}
use Rattle.cil_faults.specs.Reported.{global_fault}
use Rattle.cil_faults.specs.declared.code.FaultCode.{FaultCode}
use Rattle.cil_faults.specs.declared.code.FaultCode.TheVariants as causes
use Rattle.cil_faults.specs.declared.failure.Failure.{Failure}
use Rattle.cil_faults.specs.declared.fault.Fault.{Fault}
use Rattle.cil_syntax.specs.declared.kind.Kind.{Kind}
use Rattle.cil_attrs.specs.macros.Item.{Item, OptSet}
use Rattle.cil_attrs.specs.names.Declarations.{nowhere}
use Rattle.cil_mls.specs.OrderFaults.{AreOver}

-- the fault of more items of a kind than there may be, with the word that tells it
abbrev pub IsOver : List Item → OptSet → Kind → ℕ → List ℕ → Fault → Type 0
IsOver xs s kind most word f = AreOver xs s kind most × (f ≡ global_fault causes.TooMany nowhere word)

-- the order, or the fault of this cause where there is none
abbrev pub IsOrdered : FaultCode → Option (Vec ℕ) → Result (Vec ℕ) Failure → Type 0
IsOrdered code (Some row) r = r ≡ Ok row
IsOrdered code None (Ok row) = ⊥
IsOrdered code None (Err failure) = Fails (λ f. f ≡ global_fault code nowhere []) failure

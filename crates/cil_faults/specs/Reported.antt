-- A fault, as it is reported. This project's profile.
use Rattle.std.specs.Prelude.{ℕ, List, []}
use Rattle.cil_faults.specs.declared.code.FaultCode.{FaultCode}
use Rattle.cil_faults.specs.declared.fault.Fault.{Fault}
use Rattle.cil_faults.specs.declared.spot.Spot.{Spot}
use Rattle.cil_faults.specs.Namespaces.{Namespace, qualified}

-- a fault of the global namespace
abbrev pub global_fault : FaultCode → Spot → List ℕ → Fault
global_fault code at word = record { code = code; «module» = at.«module»; at = at.at; space = []; word = word }

-- a fault of a namespace
abbrev pub fault_at : FaultCode → Spot → Namespace → List ℕ → Fault
fault_at code at space word = record { code = code; «module» = at.«module»; at = at.at; space = qualified space; word = word }

-- a fault of the namespace that is spelled so
abbrev pub spelled_fault : FaultCode → Spot → List ℕ → List ℕ → Fault
spelled_fault code at space word = record { code = code; «module» = at.«module»; at = at.at; space = space; word = word }

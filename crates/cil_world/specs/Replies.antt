-- What a host answers, as the reply of an event.
use Rattle.std.specs.Prelude.{ℕ, Bool, true, false, Result, Ok, Err}
use Rattle.cil_host.specs.faults.Failure.{Failure}
use Rattle.cil_host.specs.faults.Failure.TheVariants as failures
use Rattle.cil_host.specs.modset.BundleError.{BundleError}
use Rattle.cil_host.specs.modset.BundleError.TheVariants as bundles
use Rattle.cil_host.specs.modset.Installed.{Installed as IsNew}
use Rattle.cil_host.specs.sexpr.ReadError.{ReadError}
use Rattle.cil_host.specs.sexpr.ReadError.TheVariants as texts
use Rattle.cil_host.specs.declared.fault.QueryFault.{QueryFault}
use Rattle.cil_host.specs.declared.host.Loaded.{Loaded as Told}
use Rattle.cil_world.specs.declared.reply.Reply.{Reply}
use Rattle.cil_world.specs.declared.reply.Reply.TheVariants.{Installed, Exported, Added, Loaded, Done, Decided, Unreadable, BadBundle, Faults, Query, NoSuch, NoMemory}

abbrev pub of_install : Result IsNew ReadError → Reply
of_install (Ok installed) = Installed installed
of_install (Err (texts.Fault fault)) = Unreadable fault
of_install (Err texts.NoMemory) = NoMemory

abbrev pub of_import : Result ℕ BundleError → Reply
of_import (Ok added) = Added added
of_import (Err (bundles.Fault fault)) = BadBundle fault
of_import (Err bundles.NoMemory) = NoMemory

abbrev pub of_load : Result Told Failure → Reply
of_load (Ok loaded) = Loaded loaded
of_load (Err (failures.Faults faults)) = Faults faults
of_load (Err failures.NoMemory) = NoMemory

abbrev pub of_set : Result (Unit {0}) QueryFault → Reply
of_set (Ok u) = Done
of_set (Err fault) = Query fault

-- an event that is answered with want of memory, or that names nothing, does not count
abbrev pub counts : Reply → Bool
counts NoSuch = false
counts NoMemory = false
counts (Installed installed) = true
counts (Exported size) = true
counts (Added added) = true
counts (Loaded loaded) = true
counts Done = true
counts (Decided allowed auditallow auditdeny) = true
counts (Unreadable fault) = true
counts (BadBundle fault) = true
counts (Faults faults) = true
counts (Query fault) = true

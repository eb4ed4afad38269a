-- A load alone: what it leaves of the host and the writer, and how it ended. This project's profile.
use Rattle.std.specs.Prelude.{◌≡◌, ℕ, List, Option, Result, Ok, Err}
use Rattle.std.specs.Io.KnownBytes.{Appends}
use Rattle.cil_faults.specs.declared.failure.Failure.{Failure}
use Rattle.cil_faults.specs.declared.failure.Failure.TheVariants as failures
use Rattle.cil_host.specs.Machine.{State}
use Rattle.cil_host.specs.Refusal.{Loads}
use Rattle.cil_host.specs.declared.host.Loaded.{Loaded}
use Rattle.cil_server.specs.Devices.{AppendsFront}
use Rattle.cil_server.specs.Replies.{of_load}
use Rattle.cil_server.specs.declared.loading.LoadEnd.{LoadEnd}
use Rattle.cil_server.specs.declared.loading.LoadEnd.TheVariants as ends

-- the end of a load with this result
abbrev pub end_of : Result Loaded Failure → LoadEnd
end_of (Ok loaded) = ends.Loaded
end_of (Err (failures.Faults faults)) = ends.Refused
end_of (Err failures.NoMemory) = ends.NoMemory

-- the model host loads its modules with a result, whose reply is told, and whose end it is
pub record IsLoaded (old new : State) (tells : List ℕ → Type 0) (ending : LoadEnd) : Type 0 where
  pub result : Result Loaded Failure
  pub loads : Loads old new result
  pub told : tells (of_load result)
  pub is_end : ending ≡ end_of result

-- what a load leaves of the host, and of the writer's bytes where they are known
pub data LeavesLoad (old new : State) (before after : Option (List ℕ)) : LoadEnd → Type 0 where
  -- there is no memory for the buffer: nothing was loaded or written
  nothing : new ≡ old → after ≡ before → LeavesLoad old new before after ends.NoMemory
  -- the whole reply is written behind what was there
  whole : (result : Result Loaded Failure) → Loads old new result → Appends before after (of_load result) → LeavesLoad old new before after (end_of result)
  -- the writer failed: the first of the reply is written
  part : (result : Result Loaded Failure) → Loads old new result → AppendsFront before after (of_load result) → LeavesLoad old new before after ends.WriteFailed

-- how many calls of the writer failed in a load that ended so
abbrev pub load_failures : LoadEnd → ℕ
load_failures ends.WriteFailed = 1
load_failures ends.Loaded = 0
load_failures ends.Refused = 0
load_failures ends.NoMemory = 0

-- What the code knows of hosts and of the bundles that it keeps: words of inner functions.
use Rattle.std.specs.Prelude.{◌≡◌, ◌++◌, ◌⊎◌, ◌<◌, ◌≤◌, ◌^◌, ℕ, List, [], ◌∷◌, Option, Some, None, length, if◌then◌else◌, slice_get, slice_set, slice_index_or}
use Rattle.cil_host.specs.modset.Bundle.{bundle}
use Rattle.cil_host.specs.Machine.{State}
use Rattle.cil_world.specs.declared.event.Event.{Event}
use Rattle.cil_world.specs.declared.event.Event.TheVariants.{Install, Export, Deliver, Load, Set, Ask, Restart}
use Rattle.cil_world.specs.declared.reply.Reply.{Reply}
use Rattle.cil_world.specs.declared.reply.Reply.TheVariants.{Exported, Done, NoSuch, NoMemory}
use Rattle.cil_world.specs.Answers.{Asks, Imports, Installs, Loads, Sets, fresh}
use Rattle.cil_world.specs.Events.{host_of, is_export}

-- the bundles by the numbers of their exports; none where an export failed
abbrev pub Kept : Type 0
Kept = List (Option (List ℕ))

abbrev pub host_at : List State → ℕ → State
host_at hosts h = slice_index_or hosts h fresh

-- the bundle of the modules is put behind the others
pub record Keeps (host : State) (exports : Kept) (reply : Reply) (kept : Kept) : Type 0 where
  pub told : reply ≡ Exported (length (bundle host.modules))
  pub kept_is : kept ≡ exports ++ Some (bundle host.modules) ∷ []
  pub counted : length (bundle host.modules) < 2 ^ 64

-- there was no memory for it, and its place is empty
pub record LeavesOut (exports : Kept) (reply : Reply) (kept : Kept) : Type 0 where
  pub told : reply ≡ NoMemory
  pub kept_is : kept ≡ exports ++ None ∷ []

-- the bundle of an export is imported
pub record Hands (exports : Kept) (k : ℕ) (old : State) (reply : Reply) (new : State) : Type 0 where
  pub bytes : List ℕ
  pub is_kept : slice_get exports k ≡ Some (Some bytes)
  pub imports : Imports old bytes reply new

-- there is no such bundle
pub record Lacks (exports : Kept) (k : ℕ) (old : State) (reply : Reply) (new : State) : Type 0 where
  pub none : (bytes : List ℕ) → slice_get exports k ≡ Some (Some bytes) → ⊥
  pub told : reply ≡ NoSuch
  pub same : new ≡ old

-- what an event does to its host and to the bundles, and what it is answered
abbrev pub Steps : Event → State → Kept → Reply → State → Kept → Type 0
Steps (Install h text) old exports reply new kept = Installs old text reply new × (kept ≡ exports)
Steps (Export h) old exports reply new kept = (Keeps old exports reply kept ⊎ LeavesOut exports reply kept) × (new ≡ old)
Steps (Deliver k h) old exports reply new kept = (Hands exports k old reply new ⊎ Lacks exports k old reply new) × (kept ≡ exports)
Steps (Load h) old exports reply new kept = Loads old reply new × (kept ≡ exports)
Steps (Set h name value) old exports reply new kept = Sets old name value reply new × (kept ≡ exports)
Steps (Ask h source target class_name) old exports reply new kept = Asks old source target class_name reply × (new ≡ old) × (kept ≡ exports)
Steps (Restart h) old exports reply new kept = (reply ≡ Done) × (new ≡ fresh) × (kept ≡ exports)

-- the host is there, and no other changes
pub record IsDone (event : Event) (hosts : List State) (exports : Kept) (reply : Reply) (after : List State) (kept : Kept) : Type 0 where
  pub there : host_of event < length hosts
  pub others : after ≡ slice_set hosts (host_of event) (host_at after (host_of event))
  pub steps : Steps event (host_at hosts (host_of event)) exports reply (host_at after (host_of event)) kept

-- the host is not there; an export takes its number all the same
pub record IsSkipped (event : Event) (hosts : List State) (exports : Kept) (reply : Reply) (after : List State) (kept : Kept) : Type 0 where
  pub absent : length hosts ≤ host_of event
  pub told : reply ≡ NoSuch
  pub same : after ≡ hosts
  pub kept_is : kept ≡ (if is_export event then exports ++ None ∷ [] else exports)

-- what an event does to all hosts
abbrev pub IsNext : Event → List State → Kept → Reply → List State → Kept → Type 0
IsNext event hosts exports reply after kept = IsDone event hosts exports reply after kept ⊎ IsSkipped event hosts exports reply after kept

-- What an event does to its host, and what it is answered. This project's profile.
use Rattle.std.specs.Prelude.{◌≡◌, ◌⊎◌, ◌<◌, ℕ, Bool, List, [], None, length, Result, Ok, Err}
use Rattle.cil_host.specs.decide_crate.Decision.{Decision}
use Rattle.cil_host.specs.faults.Failure.{Failure}
use Rattle.cil_host.specs.modset.BundleError.{BundleError}
use Rattle.cil_host.specs.modset.Installed.{Installed as IsNew}
use Rattle.cil_host.specs.modset.Bundle.{IsBundle, bundle}
use Rattle.cil_host.specs.modset.Changes.{IsImported, IsInstalled}
use Rattle.cil_host.specs.sexpr.ReadError.{ReadError}
use Rattle.cil_host.specs.declared.fault.QueryFault.{QueryFault}
use Rattle.cil_host.specs.declared.host.Loaded.{Loaded as Told}
use Rattle.cil_host.specs.Machine.{Queries, State}
use Rattle.cil_host.specs.Refusal.{Loads as LoadsHost}
use Rattle.cil_host.specs.Sets.{Sets as SetsHost}
use Rattle.cil_world.specs.declared.event.Event.{Event}
use Rattle.cil_world.specs.declared.event.Event.TheVariants.{Install, Export, Deliver, Load, Set, Ask, Restart}
use Rattle.cil_world.specs.declared.reply.Reply.{Reply}
use Rattle.cil_world.specs.declared.reply.Reply.TheVariants.{Exported, Done, Query, NoSuch, NoMemory}
use Rattle.cil_world.specs.Masks.{AreSpelled}
use Rattle.cil_world.specs.Reached.{HasReached, IsExport}
use Rattle.cil_world.specs.Replies.{of_import, of_install, of_load, of_set}

-- a host as it is at first
abbrev pub fresh : State
fresh = record { modules = []; loaded = None }

-- the text is offered to the modules
pub record Installs (old : State) (text : List ℕ) (reply : Reply) (new : State) : Type 0 where
  pub result : Result IsNew ReadError
  pub modules : IsInstalled old.modules text result new.modules
  pub loaded : new.loaded ≡ old.loaded
  pub told : reply ≡ of_install result

-- the bytes are imported
pub record Imports (old : State) (bytes : List ℕ) (reply : Reply) (new : State) : Type 0 where
  pub result : Result ℕ BundleError
  pub modules : IsImported old.modules bytes result new.modules
  pub loaded : new.loaded ≡ old.loaded
  pub told : reply ≡ of_import result

-- the bundle of the modules is kept, or there is no memory for it
abbrev pub Exports : State → Reply → Type 0
Exports host reply = (reply ≡ Exported (length (bundle host.modules))) ⊎ (reply ≡ NoMemory)

-- the modules are compiled and loaded
pub record Loads (old : State) (reply : Reply) (new : State) : Type 0 where
  pub result : Result Told Failure
  pub loads : LoadsHost old new result
  pub told : reply ≡ of_load result

-- the boolean is set, or is not there
pub record Sets (old : State) (name : List ℕ) (value : Bool) (reply : Reply) (new : State) : Type 0 where
  pub result : Result (Unit {0}) QueryFault
  pub sets : SetsHost old new name value result
  pub told : reply ≡ of_set result

-- a decision, by the names of permissions
pub record Decides (host : State) (source target class_name : List ℕ) (reply : Reply) : Type 0 where
  pub decision : Decision
  pub decides : Queries host source target class_name (Ok decision)
  pub spelled : AreSpelled host class_name decision reply

-- there is a decision, and no memory for its names
pub record LacksNames (host : State) (source target class_name : List ℕ) (reply : Reply) : Type 0 where
  pub decision : Decision
  pub decides : Queries host source target class_name (Ok decision)
  pub told : reply ≡ NoMemory

-- there is no decision
pub record Declines (host : State) (source target class_name : List ℕ) (reply : Reply) : Type 0 where
  pub fault : QueryFault
  pub declines : Queries host source target class_name (Err fault)
  pub told : reply ≡ Query fault

-- the host is asked
abbrev pub Asks : State → List ℕ → List ℕ → List ℕ → Reply → Type 0
Asks host source target class_name reply =
    Decides host source target class_name reply ⊎ (Declines host source target class_name reply ⊎ LacksNames host source target class_name reply)

module _ (events : List Event) (replies : List Reply) where
  -- the export was made before this event, and there was memory for it: its bundle is imported, with the modules that had reached its host by then
  pub record Receives (i k : ℕ) (old : State) (reply : Reply) (new : State) : Type 0 where
    pub event : ℕ
    pub host : ℕ
    pub modules : List (List ℕ)
    pub before : event < i
    pub export : IsExport events replies k event host
    pub reached : HasReached events replies event host modules
    pub is_bundle : IsBundle (bundle modules) modules
    pub imports : Imports old (bundle modules) reply new

  -- there is no such export before this event
  pub record Misses (i k : ℕ) (old : State) (reply : Reply) (new : State) : Type 0 where
    pub none : (e g : ℕ) → e < i → IsExport events replies k e g → ⊥
    pub told : reply ≡ NoSuch
    pub same : new ≡ old

  -- event i does this to its host, and gets this reply
  abbrev pub Answers : ℕ → Event → State → Reply → State → Type 0
  Answers i (Install h text) old reply new = Installs old text reply new
  Answers i (Export h) old reply new = Exports old reply × (new ≡ old)
  Answers i (Deliver k h) old reply new = Receives i k old reply new ⊎ Misses i k old reply new
  Answers i (Load h) old reply new = Loads old reply new
  Answers i (Set h name value) old reply new = Sets old name value reply new
  Answers i (Ask h source target class_name) old reply new = Asks old source target class_name reply × (new ≡ old)
  Answers i (Restart h) old reply new = (reply ≡ Done) × (new ≡ fresh)

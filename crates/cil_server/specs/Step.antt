-- One request of the model host: its reply, and the host that it leaves. This project's profile.
use Rattle.std.specs.Prelude.{◌≡◌, ◌<◌, ℕ, Bool, List, map, None, Result, Ok, Err, IsBitSet}
use Rattle.cil_sexpr.specs.declared.fault.ReadError.{ReadError}
use Rattle.cil_base.specs.Lists.{Lists as ListsOf, text_cmp}
use Rattle.cil_modset.specs.Bundle.{bundle}
use Rattle.cil_modset.specs.Changes.{IsImported, IsInstalled}
use Rattle.cil_modset.specs.declared.error.BundleError.{BundleError}
use Rattle.cil_modset.specs.declared.set.Installed.{Installed}
use Rattle.cil_faults.specs.declared.failure.Failure.{Failure}
use Rattle.cil_host.specs.decide_crate.Decision.{Decision}
use Rattle.cil_host.specs.declared.fault.QueryFault.{QueryFault}
use Rattle.cil_host.specs.declared.host.Loaded.{Loaded}
use Rattle.cil_host.specs.Listed.{line_of}
use Rattle.cil_host.specs.optionals.OptionalLine.{OptionalLine}
use Rattle.cil_host.specs.optionals.WhyLine.{WhyLine}
use Rattle.cil_host.specs.Machine.{AreOptionalLines, AreWhyLines, OfAccepted, OfLoaded, Queries, State}
use Rattle.cil_host.specs.Checks.{Checks as ChecksHost}
use Rattle.cil_host.specs.Permissions.{IsPermissionOf}
use Rattle.cil_host.specs.Refusal.{Loads as LoadsHost}
use Rattle.cil_host.specs.Sets.{Sets as SetsHost}
use Rattle.cil_server.specs.Asked.{Request}
use Rattle.cil_server.specs.Asked.Request.{Installs, Imports, Exports, Lists, Loads, AsksOptionals, AsksWhy, Unasked, Asks, Checks, Sets}
use Rattle.cil_server.specs.Replies.{no_memory, of_check, of_decision, of_export, of_import, of_install, of_list, of_load, of_optionals, of_query_fault, of_set, of_why, refused}

-- ---- names of masks

-- the class of the loaded modules has this permission at a bit of the mask
pub record IsNamed (h : State) (class_name : List ℕ) (mask bit : ℕ) (name : List ℕ) : Type 0 where
  pub is_set : IsBitSet mask bit
  pub permission : OfLoaded h (IsPermissionOf class_name bit name)

-- the name of one of the 32 bits of a mask
pub record IsNameOf (h : State) (class_name : List ℕ) (mask : ℕ) (name : List ℕ) : Type 0 where
  pub bit : ℕ
  pub within : bit < 32
  pub named : IsNamed h class_name mask bit name

-- the names of a mask, in byte order
abbrev pub NamesOf : State → List ℕ → ℕ → List (List ℕ) → Type 0
NamesOf h class_name mask names = ListsOf text_cmp (IsNameOf h class_name mask) names

-- ---- a step

-- the requests that a host may answer with want of memory; those of the loaded policy only where there is one
pub data MayLack : State → Request → Type 0 where
  installs : {h : State} {text : List ℕ} → MayLack h (Installs text)
  imports : {h : State} {bytes : List ℕ} → MayLack h (Imports bytes)
  exports : {h : State} → MayLack h Exports
  lists : {h : State} → MayLack h Lists
  loads : {h : State} → MayLack h Loads
  optionals : {h : State} → (h.loaded ≡ None → ⊥) → MayLack h AsksOptionals
  why : {h : State} → (h.loaded ≡ None → ⊥) → MayLack h AsksWhy

-- the requests that are of the loaded policy, and have no other faults
pub data NeedsPolicy : Request → Type 0 where
  optionals : NeedsPolicy AsksOptionals
  why : NeedsPolicy AsksWhy

-- from a host, a request may get this reply and leave that host
pub data Step : State → Request → List ℕ → State → Type 0 where
  install : {old new : State} {text : List ℕ} (result : Result Installed ReadError) → IsInstalled old.modules text result new.modules
      → new.loaded ≡ old.loaded → Step old (Installs text) (of_install result) new
  import_ : {old new : State} {bytes : List ℕ} (result : Result ℕ BundleError) → IsImported old.modules bytes result new.modules
      → new.loaded ≡ old.loaded → Step old (Imports bytes) (of_import result) new
  export_ : {h : State} → Step h Exports (of_export (bundle h.modules)) h
  list : {h : State} → Step h Lists (of_list (map line_of h.modules)) h
  load : {old new : State} (result : Result Loaded Failure) → LoadsHost old new result → Step old Loads (of_load result) new
  optionals : {h : State} (lines : List OptionalLine) → OfLoaded h (AreOptionalLines lines) → Step h AsksOptionals (of_optionals lines) h
  why : {h : State} (lines : List WhyLine) → OfAccepted h (AreWhyLines lines) → Step h AsksWhy (of_why lines) h
  no_policy : {h : State} {request : Request} → NeedsPolicy request → h.loaded ≡ None → Step h request (refused 71) h
  decide : {h : State} {source target class_name : List ℕ} (d : Decision) (allowed auditallow auditdeny : List (List ℕ))
      → Queries h source target class_name (Ok d) → NamesOf h class_name d.allowed allowed → NamesOf h class_name d.auditallow auditallow
      → NamesOf h class_name d.auditdeny auditdeny → Step h (Asks source target class_name) (of_decision allowed auditallow auditdeny) h
  decline : {h : State} {source target class_name : List ℕ} (fault : QueryFault) → Queries h source target class_name (Err fault)
      → Step h (Asks source target class_name) (of_query_fault fault) h
  check : {h : State} {source target class_name permission : List ℕ} (is_allowed : Bool) → ChecksHost h source target class_name permission (Ok is_allowed)
      → Step h (Checks source target class_name permission) (of_check is_allowed) h
  decline_check : {h : State} {source target class_name permission : List ℕ} (fault : QueryFault) → ChecksHost h source target class_name permission (Err fault)
      → Step h (Checks source target class_name permission) (of_query_fault fault) h
  set_ : {old new : State} {name : List ℕ} {value : Bool} (result : Result (Unit {0}) QueryFault) → SetsHost old new name value result
      → Step old (Sets name value) (of_set result) new
  unknown : {h : State} → Step h Unasked (refused 81) h
  lack : {h : State} {request : Request} → MayLack h request → Step h request no_memory h

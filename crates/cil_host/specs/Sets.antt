-- A boolean of the loaded policy that is turned on or off. The SELinux Notebook, "Booleans"; this project's profile.
use Rattle.std.specs.Prelude.{◌≡◌, ℕ, Bool, List, Some, None, Result, Ok, Err}
use Rattle.cil_avc.specs.decide_crate.Decides.{HasNoBoolean}
use Rattle.cil_host.specs.declared.fault.QueryFault.{QueryFault}
use Rattle.cil_host.specs.declared.fault.QueryFault.TheVariants.{NoPolicy, BadSource, BadTarget, NoClass, NoPermission, NoBoolean}
use Rattle.cil_host.specs.Machine.{Accepted, OfLoaded, State}
use Rattle.cil_host.specs.Settings.{IsSetTo}

-- the modules have a boolean of this qualified name: it is not so that they have none
abbrev pub HasBoolean : List (List ℕ) → List ℕ → Type 0
HasBoolean modules name = HasNoBoolean modules name → ⊥

-- the boolean has the value now; of the load nothing else has changed, nor have the modules of the host
pub record IsSet (old new : State) (name : List ℕ) (value : Bool) : Type 0 where
  pub before : Accepted
  pub was_loaded : old.loaded ≡ Some before
  pub a_boolean : HasBoolean before.modules name
  pub on : List (List ℕ)
  pub set : IsSetTo before.on name value on
  pub is : new ≡ record { modules = old.modules; loaded = Some record { modules = before.modules; reasons = before.reasons; on = on } }

-- what it answers to set a boolean, and the host that is left: the boolean is set; or the first of two faults, and nothing changes
abbrev pub Sets : State → State → List ℕ → Bool → Result (Unit {0}) QueryFault → Type 0
Sets old new name value (Ok u) = IsSet old new name value
Sets old new name value (Err NoPolicy) = (old.loaded ≡ None) × (new ≡ old)
Sets old new name value (Err NoBoolean) = OfLoaded old (λ modules. HasNoBoolean modules name) × (new ≡ old)
Sets old new name value (Err BadSource) = ⊥
Sets old new name value (Err BadTarget) = ⊥
Sets old new name value (Err NoClass) = ⊥
Sets old new name value (Err NoPermission) = ⊥

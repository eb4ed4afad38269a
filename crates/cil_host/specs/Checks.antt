-- Whether a permission is allowed, by the decision of a query. This project's profile.
use Rattle.std.specs.Prelude.{◌≡◌, ◌↔◌, ℕ, Bool, true, List, Result, Ok, Err, IsBitSet}
use Rattle.cil_avc.specs.decide_crate.Decision.{Decision}
use Rattle.cil_host.specs.declared.fault.QueryFault.{QueryFault}
use Rattle.cil_host.specs.declared.fault.QueryFault.TheVariants.{NoPermission}
use Rattle.cil_host.specs.Machine.{OfLoaded, Queries, State}
use Rattle.cil_host.specs.Permissions.{IsPermissionOf}

-- the query has this decision, and the class has the permission: it is allowed, or it is not
pub record IsChecked (h : State) (source target class_name permission : List ℕ) (is_allowed : Bool) : Type 0 where
  pub decision : Decision
  pub bit : ℕ
  pub decides : Queries h source target class_name (Ok decision)
  pub a_permission : OfLoaded h (IsPermissionOf class_name bit permission)
  pub allowed : (is_allowed ≡ true) ↔ IsBitSet decision.allowed bit

-- the query has a decision, and the class has no such permission
pub record LacksPermission (h : State) (source target class_name permission : List ℕ) : Type 0 where
  pub decision : Decision
  pub decides : Queries h source target class_name (Ok decision)
  pub none : (bit : ℕ) → OfLoaded h (IsPermissionOf class_name bit permission) → ⊥

-- what a check answers: whether the permission is allowed; or the first of the faults
abbrev pub Checks : State → List ℕ → List ℕ → List ℕ → List ℕ → Result Bool QueryFault → Type 0
Checks h source target class_name permission (Ok is_allowed) = IsChecked h source target class_name permission is_allowed
Checks h source target class_name permission (Err NoPermission) = LacksPermission h source target class_name permission
Checks h source target class_name permission (Err fault) = Queries h source target class_name (Err fault)

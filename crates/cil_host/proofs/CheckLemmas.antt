-- What a check answers, by the query before it.
use Rattle.std.specs.Prelude.{◌==◌, ◌/◌, ◌^◌, Result, Ok, Err, bit_and}
use Rattle.std.proofs.Common.{◌≡◌, ℕ, List, eq-eqb, subst}
use Rattle.std.proofs.lemmas.Bool.{eqb-true}
use Rattle.std.proofs.lemmas.Nat.{bit_set_by_shift}
use Rattle.cil_avc.specs.decide_crate.Decision.{Decision}
use Rattle.cil_host.specs.Checks.{Checks, IsChecked, LacksPermission}
use Rattle.cil_host.specs.declared.fault.QueryFault.{QueryFault}
use Rattle.cil_host.specs.declared.fault.QueryFault.TheVariants.{NoPolicy, BadSource, BadTarget, NoClass, NoPermission, NoBoolean}
use Rattle.cil_host.specs.Machine.{OfLoaded, Queries, State}
use Rattle.cil_host.specs.Permissions.{IsPermissionOf}

module _ (h : State) (source target class_name permission : List ℕ) where
  by_fault : (fault : QueryFault) → Queries h source target class_name (Err fault) → Checks h source target class_name permission (Err fault)
  by_fault NoPolicy q = q
  by_fault BadSource q = q
  by_fault BadTarget q = q
  by_fault NoClass q = q
  by_fault NoPermission q = absurd q
  by_fault NoBoolean q = q

  -- the faults of the query are those of the check
  pub query_faults : (r : Result Decision QueryFault) (fault : QueryFault) → r ≡ Err fault → Queries h source target class_name r
      → Checks h source target class_name permission (Err fault)
  query_faults r fault e q = by_fault fault (subst (Queries h source target class_name) e q)

  module _ (now : State) (same : now ≡ h) (r : Result Decision QueryFault) (d : Decision) (is : r ≡ Ok d) (q : Queries h source target class_name r) where
    -- the class has the permission
    pub permission_checked : (bit : ℕ) → OfLoaded now (IsPermissionOf class_name bit permission)
        → IsChecked h source target class_name permission (bit_and (d.allowed / 2 ^ bit) 1 == 1)
    permission_checked bit of = record {
      decision = d;
      bit = bit;
      decides = subst (Queries h source target class_name) is q;
      a_permission = subst (λ s. OfLoaded s (IsPermissionOf class_name bit permission)) same of;
      allowed = (
        λ e. (bit_set_by_shift d.allowed bit).0 (eqb-true _ _ e),
        λ s. eq-eqb _ _ ((bit_set_by_shift d.allowed bit).1 s),
      );
    }

    -- it has no such permission
    pub permission_lacking : ((bit : ℕ) → OfLoaded now (IsPermissionOf class_name bit permission) → ⊥) → LacksPermission h source target class_name permission
    permission_lacking none = record {
      decision = d;
      decides = subst (Queries h source target class_name) is q;
      none = subst (λ s. (bit : ℕ) → OfLoaded s (IsPermissionOf class_name bit permission) → ⊥) same none;
    }

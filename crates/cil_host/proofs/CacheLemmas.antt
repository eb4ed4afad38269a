-- The cache of a host is true for its policy.
use Rattle.std.specs.Prelude.{◌≡◌, ℕ, List, [], Option, Some, None}
use Rattle.std.proofs.Common.{subst, sym}
use Rattle.cil_avc.specs.declared.key.Key.{Key}
use Rattle.cil_avc.specs.Cache.{Entries, IsTrueFor}
use Rattle.cil_avc.proofs.TrueCache.{true_empty}
use Rattle.cil_table_bytes.specs.conditions.Bits.{is_on}
use Rattle.cil_avc.specs.decide_crate.Decision.{Decision}
use Rattle.cil_host.specs.declared.host.Policy.{Policy}
use Rattle.cil_host.specs.Machine.{IsTrueCache}

-- the entries are decisions of the policy that is there
pub true_there : (o : Option Policy) (p : Policy) (settings : List ℕ) (entries : List (Key × Decision)) → o ≡ Some p → IsTrueCache o settings entries
    → IsTrueFor p.compiled.tables (is_on settings) entries
true_there o p settings entries is cache = subst (λ (q : Option Policy). IsTrueCache q settings entries) is cache

pub true_kept : (o : Option Policy) (p : Policy) (settings : List ℕ) (entries : List (Key × Decision)) → o ≡ Some p → IsTrueFor p.compiled.tables (is_on settings) entries
    → IsTrueCache o settings entries
true_kept o p settings entries is cache = subst (λ (q : Option Policy). IsTrueCache q settings entries) (sym is) cache

-- an empty cache is true, whatever the policy and the settings are
pub true_always : (o : Option Policy) (settings : List ℕ) (avc : Entries) (cap : ℕ) → avc ≡ record { entries = []; cap = cap } → IsTrueCache o settings avc.entries
true_always None settings avc cap is = tt
true_always (Some p) settings avc cap is = subst (λ (a : Entries). IsTrueFor p.compiled.tables (is_on settings) a.entries) (sym is) (true_empty p.compiled.tables (is_on settings))

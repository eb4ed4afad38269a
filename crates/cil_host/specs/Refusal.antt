-- The result of a load, and the host after it. This project's profile.
use Rattle.std.specs.Prelude.{◌≡◌, ℕ, List, Some, Result, Ok, Err, length}
use Rattle.sha2.specs.Sha256.{sha256}
use Rattle.cil_base.specs.Lists.{Lists, text_cmp}
use Rattle.cil_faults.specs.declared.failure.Failure.{Failure}
use Rattle.cil_table_bytes.specs.optionals.Reason.{Reason}
use Rattle.cil_table_bytes.specs.tables.Agrees.{Compiles}
use Rattle.cil_table_bytes.specs.tables.CompileAnswer.{IsCompiled}
use Rattle.cil_table_bytes.specs.tables.CompileRefusal.{CompileFails}
use Rattle.cil_table_bytes.specs.tables.Table.{Table}
use Rattle.cil_table_bytes.specs.Layout.{layout}
use Rattle.cil_host.specs.Machine.{State, CanLoad}
use Rattle.cil_host.specs.Settings.{IsDefaultOn}
use Rattle.cil_host.specs.declared.host.Loaded.{Loaded}
use Rattle.cil_host.specs.declared.host.Policy.{Policy}

-- what tables are told by: the length and the digest of their bytes
abbrev pub told_by : Table → Loaded
told_by t = record { length = length (layout t); digest = sha256 (layout t) }

-- these are the length and the digest of the tables of the modules
pub record IsTold (modules : List (List ℕ)) (loaded : Loaded) : Type 0 where
  pub table : Table
  pub compiles : Compiles modules table
  pub told : loaded ≡ told_by table

-- the policy is what the modules compile to, with these, and this is what its tables are told by
pub record IsPolicyOf (modules : List (List ℕ)) (p : Policy) (loaded : Loaded) : Type 0 where
  pub same : p.modules ≡ modules
  pub compiled : IsCompiled modules p.compiled
  pub told : loaded ≡ told_by p.compiled.tables

-- the policy is that of the modules, which are kept with the reasons why optionals of theirs are left out, the booleans that are on are
-- those that are so by default, and what is answered are the length and the digest of its tables; or the faults are exactly those of the
-- modules, and the host is unchanged
abbrev pub Loads : State → State → Result Loaded Failure → Type 0
Loads old new (Ok loaded) =
    (reasons : List Reason) × (on : List (List ℕ)) × CanLoad old.modules reasons × Lists text_cmp (IsDefaultOn old.modules) on × IsTold old.modules loaded
    × (new ≡ record { modules = old.modules; loaded = Some record { modules = old.modules; reasons = reasons; on = on } })
Loads old new (Err failure) = CompileFails old.modules failure × (new ≡ old)

-- What is laid out of modules, case by case.
use Rattle.std.proofs.Common.{◌≡◌, ◌++◌, ◌∙◌, ℕ, List, ap, refl}
use Rattle.std.specs.Prelude.{Err, Ok, codes, length}
use Rattle.std.specs.Global.{Vec}
use Rattle.sha2.specs.Sha256.{sha256}
use Rattle.cil_commands.specs.Laid.{IsLaid}
use Rattle.cil_commands.specs.declared.laid.Laid.TheVariants.{Accepted, NoMemory, Refused}
use Rattle.cil_faults.specs.Printed.{printed}
use Rattle.cil_faults.specs.declared.failure.Failure.TheVariants as failures
use Rattle.cil_faults.specs.declared.fault.Fault.{Fault}
use Rattle.cil_server.specs.Replies.{newline, spaced}
use Rattle.cil_server.specs.host.Loaded.{Loaded}
use Rattle.cil_server.specs.table_bytes.Layout.{layout}
use Rattle.cil_server.specs.tables.Agrees.{Compiles}
use Rattle.cil_server.specs.tables.CompileRefusal.{CompileFails}
use Rattle.cil_server.specs.tables.Table.{Table}

-- tables by their bytes
pub accepted_laid : (modules : List (List ℕ)) (t : Table) (loaded : Loaded) (bytes : Vec ℕ) (told : List ℕ) → Compiles modules t → bytes.items ≡ layout t → told ≡ bytes.items
    → loaded ≡ record { length = length told; digest = sha256 told } → IsLaid modules (Accepted loaded bytes)
accepted_laid modules t loaded bytes told compiles are same is = record {
  result = Ok loaded;
  loads = record {
    table = t;
    compiles = compiles;
    is_told = is ∙ ap (λ (b : List ℕ). record { length = length b; digest = sha256 b }) (same ∙ are);
    are_bytes = are;
  };
  is_reply = refl;
  is_end = refl;
}

-- faults by their lines
pub refused_laid : (modules : List (List ℕ)) (faults : List Fault) (count : ℕ) (lines : Vec ℕ) → CompileFails modules (failures.Faults faults) → count ≡ length faults
    → lines.items ≡ printed faults → IsLaid modules (Refused count lines)
refused_laid modules faults count lines fails counted are = record {
  result = Err (failures.Faults faults);
  loads = (fails, refl);
  is_reply = ap (λ n. codes "FAULTS" ++ spaced n ++ newline ++ lines.items) counted ∙ ap (λ ls. codes "FAULTS" ++ spaced (length faults) ++ newline ++ ls) are;
  is_end = refl;
}

-- out of memory
pub lack_laid : (modules : List (List ℕ)) → IsLaid modules NoMemory
lack_laid modules = record { result = Err failures.NoMemory; loads = (tt {0}, refl); is_reply = refl; is_end = refl }

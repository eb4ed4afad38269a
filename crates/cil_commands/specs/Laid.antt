-- What modules compile to, laid out: the bytes of their tables, with what these are told by; or the lines of their faults. This project's
-- profile; the reply is that of LOAD.
use Rattle.std.specs.Prelude.{◌≡◌, ◌++◌, ℕ, List, codes, Option, Some, None, Result, Ok, Err}
use Rattle.cil_commands.specs.declared.reply.End.{End}
use Rattle.cil_commands.specs.declared.reply.End.TheVariants as ends
use Rattle.cil_commands.specs.declared.laid.Laid.{Laid}
use Rattle.cil_commands.specs.declared.laid.Laid.TheVariants.{Accepted, Refused, NoMemory}
use Rattle.cil_faults.specs.declared.failure.Failure.{Failure}
use Rattle.cil_faults.specs.declared.failure.Failure.TheVariants as failures
use Rattle.cil_server.specs.Replies.{newline, no_memory, of_load, of_loaded, spaced}
use Rattle.cil_server.specs.host.Refusal.{told_by}
use Rattle.cil_server.specs.host.Loaded.{Loaded}
use Rattle.cil_server.specs.table_bytes.Layout.{layout}
use Rattle.cil_server.specs.tables.Agrees.{Compiles}
use Rattle.cil_server.specs.tables.CompileRefusal.{CompileFails}
use Rattle.cil_server.specs.tables.Table.{Table}

-- ---- what is there

-- the bytes of tables
abbrev pub tables_of : Laid → Option (List ℕ)
tables_of (Accepted loaded bytes) = Some bytes.items
tables_of (Refused count lines) = None
tables_of NoMemory = None

-- the reply
abbrev pub reply_of : Laid → List ℕ
reply_of (Accepted loaded bytes) = of_loaded loaded
reply_of (Refused count lines) = codes "FAULTS" ++ spaced count ++ newline ++ lines.items
reply_of NoMemory = no_memory

-- how LOAD ends
abbrev pub end_of_laid : Laid → End
end_of_laid (Accepted loaded bytes) = ends.Done
end_of_laid (Refused count lines) = ends.Refused
end_of_laid NoMemory = ends.NoMemory

-- ---- what modules have

-- how a load with this result ends
abbrev pub load_end : Result Loaded Failure → End
load_end (Ok loaded) = ends.Done
load_end (Err (failures.Faults faults)) = ends.Refused
load_end (Err failures.NoMemory) = ends.NoMemory

-- the bytes are those of the tables of the modules, and the tables are told by this
pub record AreTables (modules : List (List ℕ)) (loaded : Loaded) (bytes : List ℕ) : Type 0 where
  pub table : Table
  pub compiles : Compiles modules table
  pub is_told : loaded ≡ told_by table
  pub are_bytes : bytes ≡ layout table

-- modules load with this result, and these are the bytes of their tables; where they do not, they have the faults, and there are no bytes
abbrev pub LoadsTo : List (List ℕ) → Result Loaded Failure → Option (List ℕ) → Type 0
LoadsTo modules (Ok loaded) (Some bytes) = AreTables modules loaded bytes
LoadsTo modules (Ok loaded) None = ⊥
LoadsTo modules (Err failure) bytes = CompileFails modules failure × (bytes ≡ None)

-- what is laid out are the tables of the modules, or their faults, with the reply of LOAD
pub record IsLaid (modules : List (List ℕ)) (laid : Laid) : Type 0 where
  pub result : Result Loaded Failure
  pub loads : LoadsTo modules result (tables_of laid)
  pub is_reply : reply_of laid ≡ of_load result
  pub is_end : end_of_laid laid ≡ load_end result

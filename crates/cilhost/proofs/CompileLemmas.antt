-- What a compilation leaves, and why it stops.
use Rattle.std.proofs.Common.{◌≡◌, ◌+◌, ◌∙◌, Bor, Err, List, None, Ok, Option, Result, Some, ap, inl, inr, refl, subst, sym, ℕ}
use Rattle.cil_commands.specs.Laid.{AreTables, IsLaid, LoadsTo, end_of_laid, reply_of, tables_of}
use Rattle.cil_commands.specs.Told.{LeavesReply, Says, end_failures, end_of}
use Rattle.cil_commands.specs.declared.laid.Laid.{Laid}
use Rattle.cil_commands.specs.declared.reply.End.{End}
use Rattle.cil_commands.specs.declared.reply.Reply.{Reply}
use Rattle.cil_commands.specs.server.Replies.{of_load}
use Rattle.cil_commands.specs.host.Loaded.{Loaded}
use Rattle.cil_commands.proofs.ToldLemmas.{leaves_as}
use Rattle.cil_commands.specs.host.Machine.{State, unchanged}
use Rattle.cil_faults.specs.declared.failure.Failure.{Failure as Refusal}
use Rattle.cil_modset.specs.Changes.{IsInstalled}
use Rattle.cil_modset.specs.Modules.{AreModules}
use Rattle.cil_modset.specs.declared.set.Installed.{Installed}
use Rattle.cil_sexpr.specs.declared.fault.ReadError.{ReadError}
use Rattle.cilhost.specs.Compiles.{HasReplied, IsStop, IsUnwritten}
use Rattle.cilhost.specs.Ends.{end_status}
use Rattle.cilhost.specs.Reading.{Adds, Failure, HasJust, IsTextOf, Known}
use Rattle.cilhost.specs.Sessions.{Stream}
use Rattle.cilhost.proofs.ReadingLemmas.{is_added, stay_modules}
use Rattle.cilhost.specs.declared.error.Error.{Error}
use Rattle.cilhost.specs.declared.error.Error.TheVariants.{Arguments, Failed, NoMemory, Refused}
use Rattle.cilhost.specs.declared.status.Status.{Status}

-- the reply of what was laid out is that of LOAD
pub replied : (modules : List (List ℕ)) (laid : Laid) (reply : Reply) (output left : Stream) (ending : End) (status : Status) → (is : IsLaid modules laid)
    → ((bytes : List ℕ) → Says reply bytes → bytes ≡ reply_of laid) → end_of reply ≡ end_of_laid laid
    → LeavesReply (Says reply) output.bytes left.bytes (end_of reply) ending → left.failures ≡ output.failures + end_failures ending → status ≡ end_status ending
    → HasReplied is.result output left status
replied modules laid reply output left ending status is says ends leaves failures is_status = record {
  ending = ending;
  reply = leaves_as (Says reply) (λ bytes. bytes ≡ of_load is.result) _ _ _ _ (λ bytes s. says bytes s ∙ is.is_reply)
      (subst (λ e. LeavesReply (Says reply) output.bytes left.bytes e ending) (ends ∙ is.is_end) leaves);
  failures = failures;
  is_status = is_status;
}

-- what is laid out with bytes of tables are tables of the modules
tables_there : (modules : List (List ℕ)) (result : Result Loaded Refusal) (tables : Option (List ℕ)) (bytes : List ℕ) → LoadsTo modules result tables → tables ≡ Some bytes
    → (loaded : Loaded) × (all : List ℕ) × AreTables modules loaded all
tables_there modules (Ok loaded) (Some all) bytes loads is = (loaded, all, loads)
tables_there modules (Ok loaded) None bytes loads is = absurd loads
tables_there modules (Err failure) tables bytes loads is = let bad : Some bytes ≡ None = sym is ∙ loads.1 in absurd cc

-- why nothing is written
pub stop_of : (holds : List ℕ → Known) (before failure : Failure) (files : List (Bor (List ℕ))) (out : Bor (List ℕ)) (modules : List (List ℕ)) (laid : Laid) (error : Error)
    → HasJust holds files modules → IsLaid modules laid → IsUnwritten before failure out (tables_of laid) error → IsStop holds before failure files out error
stop_of holds before failure files out modules laid (Refused file fault) has is due = absurd due
stop_of holds before failure files out modules laid Arguments has is due = absurd due
stop_of holds before failure files out modules laid NoMemory has is due = inl (inl due)
stop_of holds before failure files out modules laid (Failed file) has is due =
    let there = tables_there modules is.result (tables_of laid) due.2.0 is.loads due.2.1 in
    inr (ap Failed due.0, due.1, record { modules = modules; loaded = there.0; bytes = there.1; has_files = has; are_tables = there.2 })

-- ---- a file that is added to a set of modules

abbrev state_of : List (List ℕ) → State
state_of modules = record { modules = modules; loaded = None }

-- an installation adds a text
pub added : (known : Known) (old new : List (List ℕ)) (text : List ℕ) (found : Installed) (result : Result Installed ReadError) → IsTextOf known text → result ≡ Ok found
    → IsInstalled old text result new → Adds known old new
added known old new text found result is_text is installed =
    is_added known (state_of old) (state_of new) text found result is_text is installed.known (λ e. ap state_of (installed.stays e)) installed.joined

-- with a set of readable modules before, those after it are one
pub adds_modules : (old new : List (List ℕ)) (text : List ℕ) (result : Result Installed ReadError) → IsInstalled old text result new → AreModules old → AreModules new
adds_modules old new text result installed =
    stay_modules (state_of old) (state_of new) text result (λ e. ap state_of (installed.stays e)) installed.joined installed.readable
    (unchanged (state_of old) (state_of new) result installed.err refl)

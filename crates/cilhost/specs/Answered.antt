-- Which subcommand used the output, beside a session. This project's profile.
use Rattle.std.specs.Prelude.{ℕ, Bool, List}
use Rattle.std.specs.Borrow.{Bor}
use Rattle.cilhost.specs.Checks.{HasChecked}
use Rattle.cilhost.specs.Compiles.{HasCompiled}
use Rattle.cilhost.specs.Decides.{HasAsked}
use Rattle.cilhost.specs.Located.{HasLocated}
use Rattle.cilhost.specs.Reading.{Failure, Known}
use Rattle.cilhost.specs.Sessions.{Stream}
use Rattle.cilhost.specs.Written.{Written}
use Rattle.cilhost.specs.declared.status.Status.{Status}

-- a check has replied, or faults were located, or files were compiled, or tables were asked
pub data HasAnswered (holds : List ℕ → Known) (before failure : Failure) (written written_now : Written) (output left : Stream) (status : Status) : Type 0 where
  checked : (files : List (Bor (List ℕ))) → HasChecked holds before failure files output left status → HasAnswered holds before failure written written_now output left status
  located : (names : List (Bor (List ℕ))) (optionals : Bool) → HasLocated holds before failure names optionals output left status
      → HasAnswered holds before failure written written_now output left status
  compiled : (files : List (Bor (List ℕ))) (out : Bor (List ℕ)) → HasCompiled holds before failure files out written written_now output left status
      → HasAnswered holds before failure written written_now output left status
  asked : (path : Bor (List ℕ)) (source target class_name : List ℕ) → HasAsked holds before failure path source target class_name output left status
      → HasAnswered holds before failure written written_now output left status

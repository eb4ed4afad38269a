-- What the subcommand `session` does: a host installs the files, and then serves the requests. This project's profile.
use Rattle.std.specs.Prelude.{◌≡◌, ◌⊎◌, ◌+◌, ℕ, List, Some, None, map}
use Rattle.std.specs.Borrow.{Bor}
use Rattle.cil_commands.specs.host.Machine.{State}
use Rattle.cil_commands.specs.server.Session.{Serves, reader_failures, writer_failures}
use Rattle.cil_commands.specs.server.Served.{Served}
use Rattle.cilhost.specs.Ends.{error_status, status_of}
use Rattle.cilhost.specs.Reading.{Failure, HasJust, IsDue, Known}
use Rattle.cilhost.specs.declared.error.Error.{Error}
use Rattle.cilhost.specs.declared.status.Status.{Status}
use Rattle.cilhost.specs.declared.status.Status.TheVariants.{NoMemory}

-- what is known of a stream: its bytes, and how many of its calls have failed
pub record Stream : Type 0 where
  pub bytes : Known
  pub failures : ℕ

module _ (holds : List ℕ → Known) (before failure : Failure) (files : List (Bor (List ℕ))) (input unread output written : Stream) (status : Status) where
  -- a host with just the files and no policy served the input, and the status says how that ended
  pub record HasServed : Type 0 where
    pub host : State
    pub after : State
    pub ending : Served
    pub has_files : HasJust holds files host.modules
    pub no_policy : host.loaded ≡ None
    pub serves : (bytes out : List ℕ) → input.bytes ≡ Some bytes → output.bytes ≡ Some out → Serves bytes out unread.bytes host after written.bytes ending
    pub read_failures : unread.failures ≡ input.failures + reader_failures ending
    pub write_failures : written.failures ≡ output.failures + writer_failures ending
    pub is_status : status ≡ status_of ending
    pub sound : failure ≡ before

  -- it stopped before anything was read or written, and the status says why
  pub record HasStopped : Type 0 where
    pub error : Error
    pub is_due : IsDue holds before failure files error
    pub is_unread : unread ≡ input
    pub unwritten : written ≡ output
    pub is_status : status ≡ error_status error

  abbrev pub IsSession : Type 0
  IsSession = HasServed ⊎ HasStopped

-- the session over files of these names; or there was no memory for the arguments, and nothing was read or written
abbrev pub RunsSession : (List ℕ → Known) → Failure → Failure → List (List ℕ) → Stream → Stream → Stream → Stream → Status → Type 0
RunsSession holds before failure names input unread output written status =
    ((files : List (Bor (List ℕ))) × (map (λ file. file.now) files ≡ names) × IsSession holds before failure files input unread output written status)
    ⊎ ((status ≡ NoMemory) × (failure ≡ before) × (unread ≡ input) × (written ≡ output))

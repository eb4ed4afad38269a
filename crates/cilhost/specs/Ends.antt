-- How the program ends. This project's profile.
use Rattle.std.specs.Prelude.{◌≡◌, ◌≢◌, ◌⊎◌, ℕ, ◌==◌, if◌then◌else◌, List}
use Rattle.std.specs.Borrow.{Bor}
use Rattle.std.specs.declared.io.ErrorKind as io
use Rattle.std.specs.declared.io.ErrorKind.TheVariants as io_kind
use Rattle.clap.specs.declared.error.kind.ErrorKind.{ErrorKind}
use Rattle.clap.specs.declared.error.kind.ErrorKind.TheVariants as kind
use Rattle.cil_commands.specs.declared.reply.End.{End as CommandEnd}
use Rattle.cil_commands.specs.declared.reply.End.TheVariants as ends
use Rattle.cil_commands.specs.server.Served.{Served}
use Rattle.cil_commands.specs.server.Served.TheVariants.{Quit, End, Fault, ReadFailed, WriteFailed}
use Rattle.cil_sexpr.specs.declared.fault.ReadError.{ReadError}
use Rattle.cil_sexpr.specs.declared.fault.ReadError.TheVariants as read
use Rattle.cilhost.specs.declared.program.Streams.{Streams}
use Rattle.cilhost.specs.declared.status.Status.{Status}
use Rattle.cilhost.specs.declared.status.Status.TheVariants as status
use Rattle.cilhost.specs.declared.error.Error.{Error}
use Rattle.cilhost.specs.declared.error.Error.TheVariants as errors

-- the number that the program ends with
abbrev pub number_of : Status → ℕ
number_of status.Done = 0
number_of status.Refused = 1
number_of status.Usage = 2
number_of status.Failed = 3
number_of status.NoMemory = 4

-- the status after a session with this end
abbrev pub status_of : Served → Status
status_of Quit = status.Done
status_of End = status.Done
status_of (Fault code) = if code == 0 then status.NoMemory else status.Usage
status_of ReadFailed = status.Failed
status_of WriteFailed = status.Failed

-- the status after a command with this end
abbrev pub end_status : CommandEnd → Status
end_status ends.Done = status.Done
end_status ends.Refused = status.Refused
end_status ends.NoMemory = status.NoMemory
end_status ends.WriteFailed = status.Failed

-- the status where the program stops early
abbrev pub error_status : Error → Status
error_status errors.Arguments = status.Usage
error_status (errors.Refused file fault) = status.Refused
error_status (errors.Failed file) = status.Failed
error_status errors.NoMemory = status.NoMemory

-- why the program stops at a file that the host refuses
abbrev pub refusal : Bor (List ℕ) → ReadError → Error
refusal file (read.Fault fault) = errors.Refused file fault
refusal file read.NoMemory = errors.NoMemory

-- why the program stops at a file where a call of the system fails with an error of this kind
abbrev pub IsFailure : io.ErrorKind → Bor (List ℕ) → Error → Type 0
IsFailure kind file error = ((kind ≡ io_kind.OutOfMemory) × (error ≡ errors.NoMemory)) ⊎ ((kind ≢ io_kind.OutOfMemory) × (error ≡ errors.Failed file))

-- nothing was read from the input, nor written to the output
abbrev pub HasServedNothing : {R W E : Type 0} → Streams R W E → Streams R W E → Type 0
HasServedNothing old new = (new.input ≡ old.input) × (new.output ≡ old.output)

-- the status where no subcommand was to be run
abbrev pub answer_to : ErrorKind → Status
answer_to kind.DisplayHelp = status.Done
answer_to kind.DisplayVersion = status.Done
answer_to kind.OutOfMemory = status.NoMemory
answer_to _ = status.Usage

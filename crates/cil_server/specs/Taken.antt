-- What the parts of a session take from the input.
use Rattle.std.specs.Prelude.{◌≡◌, ℕ, ◌+◌, ◌<◌, ◌≤◌, Bool, true, false, List, [], ◌∷◌, ◌++◌, length, take, Option, Some, None, MatchResult, Result, Ok, Err}
use Rattle.std.specs.Io.KnownBytes.{Consumes, IsAtEnd}
use Rattle.cil_server.specs.Asked.{longest_line}
use Rattle.cil_server.specs.Session.{HasNoNewline}
use Rattle.cil_server.specs.Streams.{InputState, OutputState, Tells}
use Rattle.cil_server.specs.declared.served.Served.{Served}
use Rattle.cil_server.specs.declared.served.Served.TheVariants as served
use Rattle.cil_server.specs.declared.streams.Broken.{Broken}
use Rattle.cil_server.specs.declared.streams.Broken.TheVariants as broken
use Rattle.cil_server.specs.declared.streams.Taken.{Taken}
use Rattle.cil_server.specs.declared.streams.Taken.TheVariants as taken
use Rattle.cil_server.specs.declared.streams.LineTaken.{LineTaken}
use Rattle.cil_server.specs.declared.streams.LineTaken.TheVariants as lines
use Rattle.cil_server.specs.declared.streams.Body.{Body}
use Rattle.cil_server.specs.declared.streams.Body.TheVariants as bodies

-- ---- what a read of the buffer's source does

-- bytes are there, or the input has ended
abbrev pub Fills : List ℕ → Option (List ℕ) → Bool → Type 0
Fills buffered unread true = 0 < length buffered
Fills buffered unread false = IsAtEnd unread

-- ---- which stream failed

-- how many calls of the reader failed
abbrev pub read_losses : Option Broken → ℕ
read_losses None = 0
read_losses (Some broken.Reader) = 1
read_losses (Some broken.Writer) = 0

-- how both streams are left. A reader that fails was asked with nothing in the buffer, and with all replies out
abbrev pub IsLeftBy : Option Broken → InputState → OutputState → Type 0
IsLeftBy None input output = output.has_failed ≡ false
IsLeftBy (Some broken.Reader) input output = (input.buffered ≡ []) × (output.waiting ≡ []) × (output.has_failed ≡ false)
IsLeftBy (Some broken.Writer) input output = (input.buffered ≡ []) × (output.has_failed ≡ true)

-- nothing was told, and the streams are the same ones; each failed call is known
pub record Moves (input : InputState) (output : OutputState) (input_now : InputState) (output_now : OutputState) (failed : Option Broken) : Type 0 where
  pub told : Tells output output_now []
  pub reader : input_now.reader ≡ input.reader
  pub failures : input_now.failures ≡ input.failures + read_losses failed
  pub is_left : IsLeftBy failed input_now output_now

abbrev pub ending_of : Broken → Served
ending_of broken.Reader = served.ReadFailed
ending_of broken.Writer = served.WriteFailed

abbrev pub failure_of : {X : Type 0} → Result X Broken → Option Broken
failure_of (Ok x) = None
failure_of (Err b) = Some b

abbrev pub byte_failure : Taken → Option Broken
byte_failure (taken.Byte b) = None
byte_failure taken.End = None
byte_failure (taken.Failed b) = Some b

abbrev pub line_failure : LineTaken → Option Broken
line_failure (lines.Whole n) = None
line_failure lines.End = None
line_failure lines.TooLong = None
line_failure lines.Cut = None
line_failure (lines.Failed b) = Some b

abbrev pub body_failure : Body → Option Broken
body_failure (bodies.Whole body) = None
body_failure bodies.Dropped = None
body_failure bodies.Cut = None
body_failure (bodies.Failed b) = Some b

-- ---- what was taken

-- one byte
abbrev pub Takes : Option (List ℕ) → Option (List ℕ) → Taken → Type 0
Takes old new (taken.Byte b) = Consumes old new (b ∷ [])
Takes old new taken.End = Consumes old new [] × IsAtEnd new
Takes old new (taken.Failed b) = Consumes old new []

-- bytes without a newline
pub record TakesPlain (old new : Option (List ℕ)) (bytes : List ℕ) : Type 0 where
  pub consumed : Consumes old new bytes
  pub plain : HasNoNewline bytes

-- the first bytes of a line, of which there are so many
pub record TakesFront (old new : Option (List ℕ)) (line : List ℕ) (count : ℕ) : Type 0 where
  pub few : count ≤ longest_line
  pub plain : TakesPlain old new (take count line)

-- a line, whose bytes are in front in the buffer for lines
abbrev pub IsLineTaken : Option (List ℕ) → Option (List ℕ) → List ℕ → LineTaken → Type 0
IsLineTaken old new line (lines.Whole n) = (n ≤ longest_line) × HasNoNewline (take n line) × Consumes old new (take n line ++ 10 ∷ [])
IsLineTaken old new line lines.End = Consumes old new [] × IsAtEnd new
IsLineTaken old new line lines.TooLong = TakesPlain old new line
IsLineTaken old new line lines.Cut = (n : ℕ) × (0 < n) × TakesFront old new line n × IsAtEnd new
IsLineTaken old new line (lines.Failed b) = (n : ℕ) × TakesFront old new line n

-- some bytes of a number
pub record TakesSome (old new : Option (List ℕ)) (count : ℕ) : Type 0 where
  pub bytes : List ℕ
  pub consumed : Consumes old new bytes
  pub len : length bytes ≡ count

-- a body, or the bytes of one that could not be held
abbrev pub IsBodyTaken : Option (List ℕ) → Option (List ℕ) → ℕ → Body → Type 0
IsBodyTaken old new count (bodies.Whole body) = Consumes old new body.items × (length body.items ≡ count)
IsBodyTaken old new count bodies.Dropped = TakesSome old new count
IsBodyTaken old new count bodies.Cut = (n : ℕ) × (n < count) × TakesSome old new n × IsAtEnd new
IsBodyTaken old new count (bodies.Failed b) = (n : ℕ) × (n < count) × TakesSome old new n

-- a fill has failed exactly where it answered an error
abbrev pub CountsFill : {E : Type 0} → Result Bool E → ℕ → ℕ → Type 0
CountsFill result old new = MatchResult result (λ b. new ≡ old) (λ e. new ≡ old + 1)

-- bytes are there, or the input has ended; or a stream failed
abbrev pub FillsOr : List ℕ → Option (List ℕ) → Result Bool Broken → Type 0
FillsOr buffered unread (Ok there) = Fills buffered unread there
FillsOr buffered unread (Err b) = Unit {0}

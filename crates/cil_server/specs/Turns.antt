-- What the parts of a session do to the host, the streams and the replies.
use Rattle.std.specs.Prelude.{◌≡◌, ℕ, ◌+◌, ◌<◌, ◌≤◌, Bool, true, false, List, [], ◌∷◌, length, Option, Some, None, Result, Ok, Err}
use denote.Ref.{Bor}
use Rattle.cil_host.specs.decide_crate.Decision.{Decision}
use Rattle.cil_host.specs.Machine.{State}
use Rattle.cil_server.specs.Asked.{Line, Request, asked, body_of, request_of}
use Rattle.cil_server.specs.Replies.{of_decision}
use Rattle.cil_server.specs.Session.{Ends, IsCutShort, IsFailure, IsLine, IsNext, Runs, Serves, most_requests, reader_failures}
use Rattle.cil_server.specs.Step.{MayLack, NamesOf, Step}
use Rattle.cil_server.specs.Streams.{InputState, OutputState, Tells, Writes, buffer_size, unread}
use Rattle.cil_server.specs.declared.served.Served.{Served}
use Rattle.cil_server.specs.declared.served.Served.TheVariants as served
use Rattle.cil_server.specs.declared.turn.Turn.{Turn}
use Rattle.cil_server.specs.declared.turn.Turn.TheVariants as turns

-- a step of the model host, whose reply was told
pub record IsAnswered (old : State) (request : Request) (new : State) (tells : List ℕ → Type 0) : Type 0 where
  pub reply : List ℕ
  pub step : Step old request reply new
  pub told : tells reply

-- a name, behind a comma unless it is the first
abbrev pub behind_comma : Bool → List ℕ → List ℕ
behind_comma true name = name
behind_comma false name = 44 ∷ name

-- a name that there may be, told; and whether the next one is the first
abbrev pub TellsName : Bool → (List ℕ → Type 0) → Option (Bor (List ℕ)) → Bool → Type 0
TellsName is_first tells None still = tells [] × (still ≡ is_first)
TellsName is_first tells (Some name) still = tells (behind_comma is_first name.now) × (still ≡ false)

-- a decision, told
pub record TellsDecision (h : State) (class_name : List ℕ) (d : Decision) (tells : List ℕ → Type 0) : Type 0 where
  pub allowed : List (List ℕ)
  pub auditallow : List (List ℕ)
  pub auditdeny : List (List ℕ)
  pub are_allowed : NamesOf h class_name d.allowed allowed
  pub are_auditallow : NamesOf h class_name d.auditallow auditallow
  pub are_auditdeny : NamesOf h class_name d.auditdeny auditdeny
  pub told : tells (of_decision allowed auditallow auditdeny)

-- ---- turns: what is known of all streams

-- how both streams are left by a session that ended so. A reader that fails was asked with all replies out
abbrev pub IsEndedAt : Served → InputState → OutputState → Type 0
IsEndedAt served.ReadFailed input output = (input.buffered ≡ []) × (output.waiting ≡ []) × (output.has_failed ≡ false)
IsEndedAt served.WriteFailed input output = output.has_failed ≡ true
IsEndedAt served.Quit input output = Unit {0}
IsEndedAt served.End input output = Unit {0}
IsEndedAt (served.Fault code) input output = 82 ≤ code

-- the streams are the same ones, and each failed call is known
pub record Goes (input : InputState) (output : OutputState) (input_now : InputState) (output_now : OutputState) (losses : ℕ) : Type 0 where
  pub writes : Writes output output_now
  pub reader : input_now.reader ≡ input.reader
  pub failures : input_now.failures ≡ input.failures + losses

abbrev pub turn_losses : Turn → ℕ
turn_losses turns.Next = 0
turn_losses (turns.Ended ending) = reader_failures ending

abbrev pub IsTurnedAt : Turn → InputState → OutputState → Type 0
IsTurnedAt turns.Next input output = Unit {0}
IsTurnedAt (turns.Ended ending) input output = (IsFailure ending → input.buffered ≡ []) × IsEndedAt ending input output

-- the turn of a request whose body did not come; and where it came, the session goes on
abbrev pub body_turn : {X : Type 0} → Result X Turn → Turn
body_turn (Ok x) = turns.Next
body_turn (Err turn) = turn

-- ---- turns: by the bytes that are known to be next

-- one request was answered
pub record IsServed (bytes : List ℕ) (after : Option (List ℕ)) (old new : State) (tells : List ℕ → Type 0) : Type 0 where
  pub request : Request
  pub rest : List ℕ
  pub is_rest : after ≡ Some rest
  pub next : IsNext bytes request rest
  pub answered : IsAnswered old request new tells

-- the session ended by itself or was broken off, and the host is as it was
pub data Finishes (bytes : List ℕ) (after : Option (List ℕ)) (tells : List ℕ → Type 0) : Served → Type 0 where
  finished : (ending : Served) (reply rest : List ℕ) → ((count : ℕ) → count < most_requests → Ends count bytes reply ending rest) → after ≡ Some rest → tells reply
      → Finishes bytes after tells ending
  stopped : (failure : Served) → IsFailure failure → IsCutShort bytes after → tells [] → Finishes bytes after tells failure

pub record IsFinished (bytes : List ℕ) (after : Option (List ℕ)) (old new : State) (tells : List ℕ → Type 0) (ending : Served) : Type 0 where
  pub stays : new ≡ old
  pub finishes : Finishes bytes after tells ending

abbrev pub TurnOf : List ℕ → Option (List ℕ) → State → State → (List ℕ → Type 0) → Turn → Type 0
TurnOf bytes after old new tells turns.Next = IsServed bytes after old new tells
TurnOf bytes after old new tells (turns.Ended ending) = IsFinished bytes after old new tells ending

abbrev pub Turns : Option (List ℕ) → Option (List ℕ) → State → State → (List ℕ → Type 0) → Turn → Type 0
Turns before after old new tells turn = (bytes : List ℕ) → before ≡ Some bytes → TurnOf bytes after old new tells turn

-- a line that announces so many bytes, for a request that may be answered with want of memory
pub record Announces (said : Line) (count : ℕ) : Type 0 where
  pub size : body_of said ≡ count
  pub request : List ℕ → Request
  pub is_request : (body : List ℕ) → request_of said body ≡ Some (request body)
  pub may_lack : (h : State) (body : List ℕ) → MayLack h (request body)

-- a turn behind its line
abbrev pub AnswersLine : Line → Option (List ℕ) → Option (List ℕ) → State → State → (List ℕ → Type 0) → Turn → Type 0
AnswersLine said before after old new tells turn =
    (bytes line rest : List ℕ) → IsLine bytes line rest → asked line ≡ said → before ≡ Some rest → TurnOf bytes after old new tells turn

-- ---- a whole session

-- what was told: the replies of some requests, which left the writer sound and the buffer with what it holds at most, and what came last
pub record TellsLast (old new : OutputState) (replies last : List ℕ) : Type 0 where
  pub between : OutputState
  pub replied : Tells old between replies
  pub sound : between.has_failed ≡ false
  pub few : length between.waiting ≤ buffer_size
  pub ended : Tells between new last

-- how a run of this many requests came to its end
pub data IsLastTurn (count : ℕ) (rest : List ℕ) (mid : State) (input : InputState) (tells : List ℕ → Type 0) (new : State) : Served → Type 0 where
  -- the writer failed in the reply of one more request, which was run
  lost : count < most_requests → IsServed rest (unread input) mid new tells → IsLastTurn count rest mid input tells new served.WriteFailed
  -- a turn ended the session
  turned : (ending : Served) → count < most_requests → IsFinished rest (unread input) mid new tells ending → (IsFailure ending → input.buffered ≡ [])
      → IsLastTurn count rest mid input tells new ending
  -- there are no more requests
  full : (reply after : List ℕ) → Ends count rest reply (served.Fault 85) after → unread input ≡ Some after → new ≡ mid → tells reply
      → IsLastTurn count rest mid input tells new (served.Fault 85)

pub record IsRun (bytes : List ℕ) (input : InputState) (old new : State) (output output_now : OutputState) (ending : Served) : Type 0 where
  pub count : ℕ
  pub replies : List ℕ
  pub rest : List ℕ
  pub mid : State
  pub runs : Runs bytes old count replies rest mid
  pub last : IsLastTurn count rest mid input (TellsLast output output_now replies) new ending

-- a whole session, for a reader with known bytes and a writer whose bytes are known
abbrev pub IsFinishedRun : InputState → OutputState → State → InputState → OutputState → State → Served → Type 0
IsFinishedRun input output old input_now output_now new ending = (bytes before : List ℕ) → unread input ≡ Some bytes → output.written ≡ Some before
    → output.waiting ≡ [] → length input_now.buffered ≤ buffer_size → Serves bytes before input_now.left old new output_now.written ending

-- A session: a stream of bytes is cut from the left into requests, and each is answered by the model host. This project's profile.
use Rattle.std.specs.Prelude.{◌≡◌, ℕ, suc, ◌+◌, ◌<◌, ◌≤◌, List, [], ◌∷◌, ◌++◌, length, Contains, Option, Some}
use Rattle.cil_host.specs.Machine.{State}
use Rattle.cil_server.specs.Asked.{Request, asked, body_of, longest_line, request_of}
use Rattle.cil_server.specs.Asked.Line.{Quit, TooBig}
use Rattle.cil_server.specs.Devices.{IsFront}
use Rattle.cil_server.specs.Replies.{ok, refused}
use Rattle.cil_server.specs.Step.{Step}
use Rattle.cil_server.specs.Streams.{buffer_size}
use Rattle.cil_server.specs.declared.served.Served.{Served}
use Rattle.cil_server.specs.declared.served.Served.TheVariants as served

abbrev pub HasNoNewline : List ℕ → Type 0
HasNoNewline bytes = Contains bytes 10 → ⊥

-- the bytes begin with a line, and the rest follows its newline
pub record IsLine (bytes line rest : List ℕ) : Type 0 where
  pub whole : bytes ≡ line ++ 10 ∷ rest
  pub plain : HasNoNewline line
  pub fits : length line ≤ longest_line

-- the bytes begin with a request, and the rest follows it
pub record IsNext (bytes : List ℕ) (request : Request) (rest : List ℕ) : Type 0 where
  pub line : List ℕ
  pub body : List ℕ
  pub is_line : IsLine bytes line (body ++ rest)
  pub body_length : length body ≡ body_of (asked line)
  pub is_request : request_of (asked line) body ≡ Some request

-- how many requests a session may have
abbrev pub most_requests : ℕ
most_requests = 1000000

-- ---- requests that are run

-- this many requests, cut from the left and run one after the other, get these replies from a host, and leave that rest and that host
pub data Runs (bytes : List ℕ) (old : State) : ℕ → List ℕ → List ℕ → State → Type 0 where
  none : Runs bytes old 0 [] bytes old
  next : {count : ℕ} {replies rest reply after : List ℕ} {mid new : State} (request : Request) → Runs bytes old count replies rest mid
      → IsNext rest request after → Step mid request reply new → Runs bytes old (suc count) (replies ++ reply) after new

-- ---- how a session ends by itself

-- after this many requests these bytes are next: the session ends so, with this reply, and leaves these bytes
pub data Ends (count : ℕ) : List ℕ → List ℕ → Served → List ℕ → Type 0 where
  -- the input ends where a line would begin
  ended : count < most_requests → Ends count [] [] served.End []
  quit : {bytes : List ℕ} (line rest : List ℕ) → count < most_requests → IsLine bytes line rest → asked line ≡ Quit → Ends count bytes ok served.Quit rest
  -- 82: more bytes without a newline than a line may have
  too_long : {bytes : List ℕ} (front rest : List ℕ) → count < most_requests → bytes ≡ front ++ rest → HasNoNewline front → length front ≡ suc longest_line
      → Ends count bytes (refused 82) (served.Fault 82) rest
  -- 83: the input ends in a line or in a body
  line_cut : {bytes : List ℕ} → count < most_requests → HasNoNewline bytes → 0 < length bytes → length bytes ≤ longest_line
      → Ends count bytes (refused 83) (served.Fault 83) []
  body_cut : {bytes : List ℕ} (line rest : List ℕ) → count < most_requests → IsLine bytes line rest → length rest < body_of (asked line)
      → Ends count bytes (refused 83) (served.Fault 83) []
  -- 84: a body longer than a body may be
  too_big : {bytes : List ℕ} (line rest : List ℕ) → count < most_requests → IsLine bytes line rest → asked line ≡ TooBig
      → Ends count bytes (refused 84) (served.Fault 84) rest
  -- 85: no more requests
  too_many : {bytes : List ℕ} → count ≡ most_requests → Ends count bytes (refused 85) (served.Fault 85) bytes

abbrev pub IsFailure : Served → Type 0
IsFailure served.ReadFailed = Unit {0}
IsFailure served.WriteFailed = Unit {0}
IsFailure served.Quit = ⊥
IsFailure served.End = ⊥
IsFailure (served.Fault code) = ⊥

-- ---- how a session is broken off

-- some bytes that are neither a whole request nor the end of a session: a session has to read on
pub data IsShort : List ℕ → Type 0 where
  line : {bytes : List ℕ} → HasNoNewline bytes → length bytes ≤ longest_line → IsShort bytes
  body : {bytes : List ℕ} (line got : List ℕ) → IsLine bytes line got → length got < body_of (asked line) → IsShort bytes

-- ---- what is left in the reader

-- the reader has these bytes left but for the first of them: it gave no more of them than one buffer holds
pub record IsAhead (rest : List ℕ) (left : Option (List ℕ)) : Type 0 where
  pub ahead : List ℕ
  pub later : List ℕ
  pub is_left : left ≡ Some later
  pub whole : rest ≡ ahead ++ later
  pub few : length ahead ≤ buffer_size

-- the reader has these bytes left but for the first of them, and those are short of a request
pub record IsCutShort (rest : List ℕ) (left : Option (List ℕ)) : Type 0 where
  pub short : List ℕ
  pub later : List ℕ
  pub is_left : left ≡ Some later
  pub whole : rest ≡ short ++ later
  pub is_short : IsShort short

-- what a session was at when its writer failed, behind this many requests: this was to be told last
pub data IsLast (count : ℕ) (rest : List ℕ) (mid : State) (left : Option (List ℕ)) : List ℕ → State → Type 0 where
  -- the reply of one more request, which was run
  replied : {last : List ℕ} {new : State} (request : Request) (after : List ℕ) → count < most_requests → IsNext rest request after → Step mid request last new
      → IsAhead after left → IsLast count rest mid left last new
  -- the reply that ends the session
  ended : {last : List ℕ} (ending : Served) (after : List ℕ) → Ends count rest last ending after → IsAhead after left → IsLast count rest mid left last mid
  -- nothing: what waited was written before a read, and no request was begun
  waited : IsCutShort rest left → IsLast count rest mid left [] mid

-- the first of the replies are out. Of those before the last one, no more are lost than waited in one buffer
pub record IsSent (sent replies last : List ℕ) : Type 0 where
  pub front : IsFront sent (replies ++ last)
  pub few : length replies ≤ length sent + buffer_size

-- ---- what is served

-- for a reader with known bytes and a writer whose bytes are known: what they have left and have, and the host, after a session that ended so
pub data Serves (input before : List ℕ) (left : Option (List ℕ)) (old new : State) (written : Option (List ℕ)) : Served → Type 0 where
  -- there is no memory for the buffers: nothing was read or written
  nothing : left ≡ Some input → new ≡ old → written ≡ Some before → Serves input before left old new written (served.Fault 0)
  -- the session ended by itself: all replies are out
  all : (count : ℕ) (replies rest reply after : List ℕ) (ending : Served) → Runs input old count replies rest new → Ends count rest reply ending after
      → IsAhead after left → written ≡ Some (before ++ replies ++ reply) → Serves input before left old new written ending
  -- the reader failed, short of a request: the replies of the requests before are out
  broken : (count : ℕ) (replies rest : List ℕ) → Runs input old count replies rest new → count < most_requests → IsCutShort rest left
      → written ≡ Some (before ++ replies) → Serves input before left old new written served.ReadFailed
  -- the writer failed: the first of the replies are out
  part : (count : ℕ) (replies rest last sent : List ℕ) (mid : State) → Runs input old count replies rest mid → IsLast count rest mid left last new
      → IsSent sent replies last → written ≡ Some (before ++ sent) → Serves input before left old new written served.WriteFailed

-- how many calls of the reader and of the writer failed in a session that ended so
abbrev pub reader_failures : Served → ℕ
reader_failures served.ReadFailed = 1
reader_failures served.WriteFailed = 0
reader_failures served.Quit = 0
reader_failures served.End = 0
reader_failures (served.Fault code) = 0

abbrev pub writer_failures : Served → ℕ
writer_failures served.WriteFailed = 1
writer_failures served.ReadFailed = 0
writer_failures served.Quit = 0
writer_failures served.End = 0
writer_failures (served.Fault code) = 0

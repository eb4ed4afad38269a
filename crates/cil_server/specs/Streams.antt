-- What a session knows of its input and its output.
use Rattle.std.specs.Prelude.{◌≡◌, ℕ, ◌+◌, Bool, true, false, List, ◌++◌, Option, Some, None}
use Rattle.std.specs.Borrow.{GName}
use Rattle.std.specs.Io.KnownBytes.{Appends, prepend_known}
use Rattle.cil_server.specs.Devices.{IsFront}

-- how many bytes a buffer holds
abbrev pub buffer_size : ℕ
buffer_size = 65536

-- ---- to be read

-- the bytes that were taken from the reader and not yet read, those that the reader has left, and how many of its calls have failed
pub record InputState : Type 0 where
  pub buffered : List ℕ
  pub left : Option (List ℕ)
  pub failures : ℕ
  pub reader : GName

-- the bytes in the buffer, and then those of the reader
abbrev pub unread : InputState → Option (List ℕ)
unread input = prepend_known input.buffered input.left

-- ---- to be written

-- the bytes that the writer has, those that wait to be written, whether a call of the writer has failed, and how many have ever failed
pub record OutputState : Type 0 where
  pub written : Option (List ℕ)
  pub waiting : List ℕ
  pub has_failed : Bool
  pub failures : ℕ
  pub writer : GName

-- all that was told is out or waits; or the writer failed, and the first of it is out
abbrev pub IsHeld : Bool → List ℕ → List ℕ → List ℕ → Type 0
IsHeld false waiting out told = told ≡ out ++ waiting
IsHeld true waiting out told = IsFront out told

-- what was told since the writer had these bytes, for a writer whose bytes are known
abbrev pub HoldsIn : List ℕ → Option (List ℕ) → OutputState → List ℕ → Type 0
HoldsIn before None output told = ⊥
HoldsIn before (Some written) output told = (out : List ℕ) × (written ≡ before ++ out) × IsHeld output.has_failed output.waiting out told

abbrev pub Holds : List ℕ → OutputState → List ℕ → Type 0
Holds before output told = HoldsIn before output.written output told

-- known bytes stay in front
abbrev pub Grows : Option (List ℕ) → Option (List ℕ) → Type 0
Grows old new = (more : List ℕ) × Appends old new more

abbrev pub one_if : Bool → ℕ
one_if true = 1
one_if false = 0

-- the same writer, of which at most one more call has failed: the one by which the output knows of it, and none behind it
pub record Writes (old new : OutputState) : Type 0 where
  pub counts : new.failures + one_if old.has_failed ≡ old.failures + one_if new.has_failed
  pub lasting : old.has_failed ≡ true → new.has_failed ≡ true
  pub writer : new.writer ≡ old.writer

-- these bytes were told; of a writer whose bytes are not known it says what `Writes` says
pub record Tells (old new : OutputState) (bytes : List ℕ) : Type 0 where
  pub told : (before told : List ℕ) → Holds before old told → Holds before new (told ++ bytes)
  pub grows : Grows old.written new.written
  pub writes : Writes old new

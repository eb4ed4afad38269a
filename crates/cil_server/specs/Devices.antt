-- What a call of a session's reader or writer does to its bytes and to its count of failed calls. This project's profile.
use Rattle.std.specs.Prelude.{◌≡◌, ℕ, ◌+◌, ◌<◌, Bool, true, not, ◌&&◌, ◌==◌, List, ◌++◌, length, take, Option, Result, MatchResult}
use Rattle.std.specs.Io.KnownBytes.{Appends}

-- below this count, another failed call can be counted: 2^64 - 1
abbrev pub most_failures : ℕ
most_failures = 18446744073709551615

-- some bytes are the first of others
pub record IsFront (front bytes : List ℕ) : Type 0 where
  pub rest : List ℕ
  pub whole : bytes ≡ front ++ rest

-- ---- reading

-- a pull has failed exactly where it answered an error
abbrev pub CountsPull : {E : Type 0} → Result ℕ E → ℕ → ℕ → Type 0
CountsPull result old new = MatchResult result (λ n. new ≡ old) (λ e. new ≡ old + 1)

-- ---- writing

-- the writer took n of the bytes; that it took none of some bytes is a failure
pub record CountsTaken (n : ℕ) (bytes : List ℕ) (old new : ℕ) : Type 0 where
  pub some : 0 < n → new ≡ old
  pub empty : length bytes ≡ 0 → new ≡ old
  pub none : n ≡ 0 → 0 < length bytes → new ≡ old + 1

-- a push has failed exactly where it answered an error, or took none of some bytes
abbrev pub CountsPush : {E : Type 0} → Result ℕ E → List ℕ → ℕ → ℕ → Type 0
CountsPush result bytes old new = MatchResult result (λ n. CountsTaken n bytes old new) (λ e. new ≡ old + 1)

-- the writer has some of the first bytes more
pub record AppendsFront (old new : Option (List ℕ)) (bytes : List ℕ) : Type 0 where
  pub front : List ℕ
  pub is_front : IsFront front bytes
  pub appends : Appends old new front

-- the writer has those bytes more that it took; after an error it may have some of the first
abbrev pub PushAppends : {E : Type 0} → Option (List ℕ) → Option (List ℕ) → Result ℕ E → List ℕ → Type 0
PushAppends old new result bytes = MatchResult result (λ n. Appends old new (take n bytes)) (λ e. AppendsFront old new bytes)

-- whether a push has failed
abbrev pub IsLost : {E : Type 0} → Bool → Result ℕ E → List ℕ → Type 0
IsLost lost result bytes = MatchResult result (λ n. lost ≡ ((n == 0) && not (length bytes == 0))) (λ e. lost ≡ true)

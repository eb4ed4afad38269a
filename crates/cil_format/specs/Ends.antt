-- The bytes of the last record, if there is one. No other crate needs this word.
use Rattle.std.specs.Prelude.{ℕ, List, Option, Some, None}
use Rattle.std.specs.Borrow.{Bor}

abbrev pub last_of : Option (Bor (List ℕ)) → Option (List ℕ)
last_of None = None
last_of (Some l) = Some l.now

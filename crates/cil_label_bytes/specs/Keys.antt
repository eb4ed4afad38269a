-- The texts of borrowed names. No other crate needs this word.
use Rattle.std.specs.Prelude.{ℕ, List, map}
use Rattle.std.specs.Borrow.{Bor}

abbrev pub texts_of : List (Bor (List ℕ)) → List (List ℕ)
texts_of keys = map (λ k. k.now) keys

-- Conditions that are read as tokens, put behind those that were there. No other crate needs these words.
use Rattle.std.specs.Prelude.{◌≡◌, ℕ, List, ◌∷◌, ◌++◌, Result, Ok, Err}
use Rattle.std.specs.Borrow.{Bor}
use Rattle.cil_conditions.specs.declared.token.Token.{Token}
use Rattle.cil_format.specs.declared.fault.TableError.{TableError}
use Rattle.cil_format.specs.Format.{Format, both}
use Rattle.cil_format.specs.Takes.{Fails}
use Rattle.cil_rule_bytes.specs.Conditions.{Condition, tokens_of}

-- the tokens of the condition at the front of the bytes were put behind those that were there, and these bytes are left
abbrev pub Pushes : Format Condition → List ℕ → List Token → List Token → Result (Bor (List ℕ)) TableError → Type 0
Pushes f bytes old new (Ok rest) = (c : Condition) × (f.read bytes ≡ Ok (c, rest.now)) × (new ≡ old ++ tokens_of c)
Pushes f bytes old new (Err error) = Fails error (f.read bytes)

-- the same of two conditions, behind an operator that joins them
abbrev pub PushesJoined : Token → Format Condition → List ℕ → List Token → List Token → Result (Bor (List ℕ)) TableError → Type 0
PushesJoined operator f bytes old new (Ok rest) =
    (p : Condition × Condition) × ((both f (λ a. f)).read bytes ≡ Ok (p, rest.now)) × (new ≡ old ++ operator ∷ (tokens_of p.0 ++ tokens_of p.1))
PushesJoined operator f bytes old new (Err error) = Fails error ((both f (λ a. f)).read bytes)

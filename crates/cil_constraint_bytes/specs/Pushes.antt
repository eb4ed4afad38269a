-- What was put behind some steps. No other crate needs these words.
use Rattle.std.specs.Prelude.{◌≡◌, ℕ, List, ◌++◌, Result, Ok, Err}
use Rattle.std.specs.Borrow.{Bor}
use Rattle.cil_format.specs.declared.fault.TableError.{TableError}
use Rattle.cil_format.specs.Format.{Format, both}
use Rattle.cil_format.specs.Takes.{Fails}
use Rattle.cil_constraints.specs.declared.step.Step.{Step}
use Rattle.cil_constraints.specs.Expressions.{Expression, steps_of}

-- the steps of the expression at the front of the bytes were put behind those that were there, and these bytes are left
abbrev pub Pushes : Format (Expression (List ℕ)) → List ℕ → List Step → List Step → Result (Bor (List ℕ)) TableError → Type 0
Pushes f bytes old new (Ok rest) = (e : Expression (List ℕ)) × (f.read bytes ≡ Ok (e, rest.now)) × (new ≡ old ++ steps_of e)
Pushes f bytes old new (Err error) = Fails error (f.read bytes)

-- the same of two expressions, one behind the other
abbrev pub PushesTwo : Format (Expression (List ℕ)) → List ℕ → List Step → List Step → Result (Bor (List ℕ)) TableError → Type 0
PushesTwo f bytes old new (Ok rest) =
    (p : Expression (List ℕ) × Expression (List ℕ)) × ((both f (λ a. f)).read bytes ≡ Ok (p, rest.now)) × (new ≡ old ++ (steps_of p.0 ++ steps_of p.1))
PushesTwo f bytes old new (Err error) = Fails error ((both f (λ a. f)).read bytes)

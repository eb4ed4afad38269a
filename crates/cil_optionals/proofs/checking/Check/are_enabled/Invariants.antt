use Rattle.std.specs.Prelude.{◌≡◌, ◌<◌, ℕ}
use Rattle.cil_names.specs.Entries.{is_in}
use Rattle.cil_optionals.specs.Times.{after}
use Rattle.cil_optionals.proofs.checking.Check.are_enabled.Given as goal

abbrev pub invariant-loop-number : goal.invariant-loop-number
invariant-loop-number l = (o : ℕ) → o < l.number → is_in l.flags o ≡ after l.self.times.now l.steps o

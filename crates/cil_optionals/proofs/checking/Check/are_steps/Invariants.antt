use Rattle.std.specs.Prelude.{◌≡◌, ◌<◌, ℕ, Some, slice_get, true}
use Rattle.cil_optionals.specs.declared.reason.Reason.{Reason}
use Rattle.cil_optionals.specs.Parts.{is_step, parts_in}
use Rattle.cil_optionals.specs.Times.{after, names_after}
use Rattle.cil_optionals.proofs.checking.Check.are_steps.Given as goal

abbrev pub invariant-loop-step : goal.invariant-loop-step
invariant-loop-step l =
    (k : ℕ) (r : Reason) → k < l.step → slice_get l.reasons k ≡ Some r → is_step (parts_in l.self.parts.now) (after l.self.times.now k) (names_after l.self.entries.now k) r ≡ true

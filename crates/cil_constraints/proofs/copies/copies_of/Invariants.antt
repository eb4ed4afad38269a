use Rattle.std.specs.Prelude.{◌≡◌, take}
use Rattle.cil_constraints.proofs.copies.copies_of.Given as goal

abbrev pub invariant-loop-step : goal.invariant-loop-step
invariant-loop-step l = l.copies.items ≡ take l.step-index l.steps

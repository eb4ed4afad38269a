use Rattle.cil_optionals.specs.Parts.{parts_in}
use Rattle.cil_optionals.specs.Times.{AreTimesUpTo}
use Rattle.cil_optionals.proofs.times.times_of.Given as goal

abbrev pub invariant-loop-step : goal.invariant-loop-step
invariant-loop-step l = AreTimesUpTo (parts_in l.parts) l.reasons l.step l.times.items

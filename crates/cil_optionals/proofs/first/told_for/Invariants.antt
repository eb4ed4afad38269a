use Rattle.std.specs.Prelude.{length}
use Rattle.cil_optionals.specs.FirstParts.{AreTold}
use Rattle.cil_optionals.specs.Parts.{parts_in}
use Rattle.cil_optionals.proofs.first.told_for.Given as goal

abbrev pub invariant-loop-step : goal.invariant-loop-step
invariant-loop-step l = AreTold (parts_in l.check.parts.now) l.check.times.now l.check.entries.now (length l.reasons) l.step l.reasons l.told.items

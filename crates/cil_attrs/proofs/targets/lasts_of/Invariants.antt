use Rattle.std.specs.Prelude.{◌≡◌, length, take}
use Rattle.cil_attrs.specs.Targets.{AreLast}
use Rattle.cil_attrs.proofs.targets.lasts_of.Given as goal

abbrev pub invariant-loop-step : goal.invariant-loop-step
invariant-loop-step l = (length l.lasts.items ≡ l.entries) × AreLast (take l.step-index l.steps) l.lasts.items

use Rattle.std.specs.Prelude.{take}
use Rattle.cil_attrs.specs.Targets.{IsFlagged, IsToldOf}
use Rattle.cil_attrs.proofs.ToldLemmas.{AreTold}
use Rattle.cil_attrs.proofs.faults.push_flagged.Given as goal

abbrev pub invariant-loop-step : goal.invariant-loop-step
invariant-loop-step l = AreTold l.steps l.fn.faults.items (IsToldOf l.instances (IsFlagged l.flags)) (take l.step-index l.steps) l.faults.items

use Rattle.std.specs.Prelude.{◌≡◌, ◌↔◌, ℕ, length, take}
use Rattle.cil_attrs.specs.Targets.{HasOther, IsFlagged}
use Rattle.cil_attrs.proofs.targets.twice_flags.Given as goal

abbrev pub invariant-loop-step : goal.invariant-loop-step
invariant-loop-step l = (length l.flags.items ≡ length l.lasts) × ((d : ℕ) → IsFlagged l.flags.items d ↔ HasOther (take l.step-index l.steps) l.lasts d)

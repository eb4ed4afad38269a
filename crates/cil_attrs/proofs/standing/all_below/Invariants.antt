use Rattle.std.specs.Prelude.{◌≡◌, ◌<◌, ℕ, Some, [], get_or, length, slice_get}
use Rattle.cil_attrs.specs.declared.evaluator.Held.{Held}
use Rattle.cil_attrs.specs.Standing.{AreBelow}
use Rattle.cil_attrs.proofs.standing.all_below.Given as goal

abbrev pub invariant-loop-d : goal.invariant-loop-d
invariant-loop-d l = (length l.sets.items ≡ l.d) × ((d : ℕ) (h : Held) → d < l.d → slice_get l.held d ≡ Some h → AreBelow l.items h (get_or l.sets.items d []))

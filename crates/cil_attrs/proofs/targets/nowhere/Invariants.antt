use Rattle.std.specs.Prelude.{None}
use Rattle.std.proofs.Common.{◌≡◌, ℕ, length, get_or}
use Rattle.cil_attrs.proofs.targets.nowhere.Given as goal

abbrev pub invariant-loop-entry : goal.invariant-loop-entry
invariant-loop-entry l = (length l.lasts.items ≡ l.entry) × ((d : ℕ) → get_or l.lasts.items d None ≡ None)

use Rattle.std.proofs.Common.{◌≡◌, ℕ, false, length, get_or}
use Rattle.cil_attrs.proofs.targets.no_flags.Given as goal

abbrev pub invariant-loop-entry : goal.invariant-loop-entry
invariant-loop-entry l = (length l.flags.items ≡ l.entry) × ((d : ℕ) → get_or l.flags.items d false ≡ false)

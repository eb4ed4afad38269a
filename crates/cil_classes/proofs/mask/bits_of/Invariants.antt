use Rattle.std.specs.Prelude.{◌↔◌, ◌<◌, ℕ, Contains, IsBitSet, Some, take}
use Rattle.cil_classes.specs.Row.{most_permissions}
use Rattle.cil_classes.proofs.mask.bits_of.Given as goal

abbrev pub invariant-loop-number : goal.invariant-loop-number
invariant-loop-number l = (bit : ℕ) → IsBitSet l.mask bit ↔ (Contains (take l.number-index l.numbers) (Some bit) × (bit < most_permissions))

use Rattle.std.proofs.Common.{◌≡◌, ℕ, ◌<◌, length, slice_index}
use Rattle.cil_modset.specs.Bundle.{magic}
use Rattle.cil_modset.proofs.import.read_header.Given as goal

abbrev pub invariant-loop-i : goal.invariant-loop-i
invariant-loop-i l = (k : ℕ) → k < l.i → k < length l.bytes → slice_index l.bytes k ≡ slice_index magic k

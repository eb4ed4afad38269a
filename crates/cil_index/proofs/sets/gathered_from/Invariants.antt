use Rattle.std.proofs.Common.{ℕ, List, take}
use Rattle.std.specs.Prelude.{Contains}
use Rattle.cil_index.proofs.sets.gathered_from.Given as goal

abbrev pub invariant-loop-set : goal.invariant-loop-set
invariant-loop-set l = (set : List ℕ) → Contains (take l.set-index l.named) set → Contains l.gathered set

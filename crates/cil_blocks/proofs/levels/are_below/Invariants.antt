use Rattle.std.proofs.Common.{ℕ, ◌<◌, take}
use Rattle.std.specs.Prelude.{Contains}
use Rattle.cil_blocks.specs.Steps.{level_at}
use Rattle.cil_blocks.proofs.levels.are_below.Given as goal

abbrev pub invariant-loop-number : goal.invariant-loop-number
invariant-loop-number l = (k : ℕ) → Contains (take l.number-index l.numbers) k → level_at l.levels k < l.limit

use Rattle.std.proofs.Common.{◌≡◌, ℕ, take}
use Rattle.std.specs.List.{flat_map}
use Rattle.cil_blocks.specs.Named.{targets_in}
use Rattle.cil_blocks.specs.Seeds.{bodies}
use Rattle.cil_blocks.proofs.reach.handed_to.Given as goal

abbrev pub invariant-loop-number : goal.invariant-loop-number
invariant-loop-number l = l.handed.items ≡ flat_map (λ (v : ℕ). bodies (targets_in l.targets v)) (take l.number-index l.number-items)

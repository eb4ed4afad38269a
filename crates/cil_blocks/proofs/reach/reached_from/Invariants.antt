use Rattle.std.proofs.Common.{◌-◌, ◌^◌}
use Rattle.cil_blocks.specs.Seeds.{IsHanded}
use Rattle.cil_blocks.proofs.Reached.{AreSoFar}
use Rattle.cil_blocks.proofs.reach.reached_from.Given as goal

abbrev pub invariant-loop-at : goal.invariant-loop-at
invariant-loop-at l = AreSoFar (IsHanded l.parts l.targets) l.fn.seed l.at l.reached.keys

-- a set has fewer members than there are places in memory
abbrev pub decreases-loop-at : goal.decreases-loop-at
decreases-loop-at l = 2 ^ 63 - l.at

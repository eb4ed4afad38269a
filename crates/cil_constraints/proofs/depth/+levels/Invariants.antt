use Rattle.std.specs.Prelude.{◌+◌}
use Rattle.cil_constraints.proofs.depth.+levels.Given as goal

abbrev pub decreases-behind_one : goal.decreases-behind_one
decreases-behind_one l = l.most + l.most

abbrev pub decreases-behind_two : goal.decreases-behind_two
decreases-behind_two l = l.most + l.most + 1

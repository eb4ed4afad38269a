use Rattle.std.proofs.Common.{◌+◌, ◌*◌}
use Rattle.cil_constraint_bytes.proofs.steps.+steps.Given as goal

abbrev pub decreases-push_tree : goal.decreases-push_tree
decreases-push_tree l = 2 * l.levels

abbrev pub decreases-push_two : goal.decreases-push_two
decreases-push_two l = 2 * l.levels + 1

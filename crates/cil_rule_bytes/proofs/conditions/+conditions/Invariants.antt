use Rattle.std.proofs.Common.{◌+◌, ◌*◌}
use Rattle.cil_rule_bytes.proofs.conditions.+conditions.Given as goal

abbrev pub decreases-push_joined : goal.decreases-push_joined
decreases-push_joined l = 2 * l.depth + 1

abbrev pub decreases-push_tree : goal.decreases-push_tree
decreases-push_tree l = 2 * l.depth

use Rattle.std.proofs.Common.{◌≡◌, ◌++◌}
use Rattle.cil_macros.specs.Items.{item_at}
use Rattle.cil_macros.proofs.instances.Instances.round.Given as goal

abbrev pub invariant-loop-optional : goal.invariant-loop-optional
invariant-loop-optional l = l.round.items ++ (item_at l.self l.place).round ≡ (item_at l.self l.at).round

abbrev pub decreases-loop-optional : goal.decreases-loop-optional
decreases-loop-optional l = l.place

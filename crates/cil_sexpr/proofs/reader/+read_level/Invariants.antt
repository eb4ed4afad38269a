use Rattle.std.proofs.Common.{length, ◌-◌}
use Rattle.cil_sexpr.specs.Text.{deepest}
use Rattle.cil_sexpr.proofs.Level.{IsRead}
use Rattle.cil_sexpr.proofs.reader.+read_level.Given as goal

-- each call inside has one list more round it
abbrev pub decreases-read_level : goal.decreases-read_level
decreases-read_level l = deepest - l.depth

abbrev pub invariant-loop-at : goal.invariant-loop-at
invariant-loop-at l = IsRead l.text l.depth l.from l.nodes.items l.at

abbrev pub decreases-loop-at : goal.decreases-loop-at
decreases-loop-at l = length l.text - l.at

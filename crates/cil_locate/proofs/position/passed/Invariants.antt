use Rattle.std.proofs.Common.{◌≡◌, ◌≤◌}
use Rattle.cil_locate.specs.Positions.{line_start, newlines}
use Rattle.cil_locate.proofs.position.passed.Given as goal

abbrev pub invariant-loop-place : goal.invariant-loop-place
invariant-loop-place l = (l.newlines ≡ newlines l.text l.place) × (l.begin ≡ line_start l.text l.place) × (l.newlines ≤ l.place)

use Rattle.std.proofs.Common.{◌≡◌, ◌+◌, length, take}
use Rattle.cil_modset.specs.Rows.{joined}
use Rattle.cil_modset.proofs.rows.text_at.Given as goal

abbrev pub invariant-loop-row : goal.invariant-loop-row
invariant-loop-row l = length (joined (take l.row-index l.rows)) + l.left ≡ l.i

use Rattle.std.proofs.Common.{◌≡◌, ◌≤◌, take}
use Rattle.std.specs.List.{count_by}
use Rattle.cil_settle.specs.Plain.{is_set}
use Rattle.cil_settle.proofs.plain.count.Given as goal

abbrev pub invariant-loop-flag : goal.invariant-loop-flag
invariant-loop-flag l = (l.set ≡ count_by is_set (take l.flag-index l.flags)) × (l.set ≤ l.flag-index)

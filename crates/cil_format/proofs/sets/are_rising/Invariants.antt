use Rattle.std.proofs.Common.{◌≡◌, ◌-◌, drop}
use Rattle.cil_format.specs.Fields.{rises}
use Rattle.cil_format.proofs.sets.are_rising.Given as goal

abbrev pub invariant-loop-at : goal.invariant-loop-at
invariant-loop-at l = rises (drop (l.at - 1) l.numbers) ≡ rises l.numbers

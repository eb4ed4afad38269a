use Rattle.std.specs.Prelude.{◌≡◌, sum_by, take}
use Rattle.cil_optionals.specs.PartCounts.{lost_inside}
use Rattle.cil_optionals.specs.Parts.{parts_in}
use Rattle.cil_optionals.proofs.counts.lost_candidates.Given as goal

abbrev pub invariant-loop-at : goal.invariant-loop-at
invariant-loop-at l = l.count ≡ sum_by (lost_inside l.declared) (take l.at (parts_in l.parts))

use Rattle.std.specs.Prelude.{◌≡◌, take}
use Rattle.cil_optionals.specs.PartCounts.{lost_of}
use Rattle.cil_optionals.proofs.counts.lost_entries.Given as goal

abbrev pub invariant-loop-entry : goal.invariant-loop-entry
invariant-loop-entry l = l.count ≡ lost_of l.declared (take l.entry-index l.candidates)

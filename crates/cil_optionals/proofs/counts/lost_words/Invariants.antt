use Rattle.std.specs.Prelude.{◌≡◌, take}
use Rattle.cil_optionals.specs.PartCounts.{lost_among}
use Rattle.cil_optionals.specs.Parts.{asked_at, parts_in}
use Rattle.cil_optionals.proofs.counts.lost_words.Given as goal

abbrev pub invariant-loop-word : goal.invariant-loop-word
invariant-loop-word l = l.count ≡ lost_among l.declared (take l.word (asked_at (parts_in l.parts) l.at))

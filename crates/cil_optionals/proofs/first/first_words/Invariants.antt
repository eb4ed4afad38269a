use Rattle.std.specs.Prelude.{◌≡◌, length}
use Rattle.cil_optionals.specs.FirstParts.{AreFirstWords}
use Rattle.cil_optionals.specs.Parts.{parts_in}
use Rattle.cil_optionals.proofs.first.first_words.Given as goal

abbrev pub invariant-loop-at : goal.invariant-loop-at
invariant-loop-at l =
    AreFirstWords (parts_in l.check.parts.now) l.check.times.now l.check.entries.now l.steps l.at l.words.items × (length l.words.items ≡ length l.check.times.now)

abbrev pub decreases-loop-at : goal.decreases-loop-at
decreases-loop-at l = l.at

use Rattle.std.specs.Prelude.{◌≡◌, take, true}
use Rattle.std.specs.List.{list_all}
use Rattle.cil_optionals.specs.Parts.{asked_at, parts_in}
use Rattle.cil_optionals.specs.Times.{names_after}
use Rattle.cil_optionals.proofs.first.first_lacking.Given as goal

abbrev pub invariant-loop-word : goal.invariant-loop-word
invariant-loop-word l = list_all (names_after l.check.entries.now l.steps) (take l.word (asked_at (parts_in l.check.parts.now) l.at)) ≡ true

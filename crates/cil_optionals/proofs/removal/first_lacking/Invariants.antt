use Rattle.std.specs.Prelude.{◌≡◌, take, true}
use Rattle.std.specs.List.{list_all}
use Rattle.cil_names.specs.Entries.{is_in}
use Rattle.cil_optionals.specs.Parts.{asked_at, names_one, parts_in}
use Rattle.cil_optionals.proofs.removal.first_lacking.Given as goal

abbrev pub invariant-loop-word : goal.invariant-loop-word
invariant-loop-word l = list_all (names_one l.entries (is_in l.left)) (take l.word (asked_at (parts_in l.parts) l.at)) ≡ true

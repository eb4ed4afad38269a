use Rattle.std.specs.Prelude.{◌≡◌, count_by, take}
use Rattle.cil_macros.specs.Items.{items_in}
use Rattle.cil_names.specs.Entries.{is_in}
use Rattle.cil_optionals.specs.Counts.{is_lost}
use Rattle.cil_optionals.proofs.counts.lost_statements.Given as goal

abbrev pub invariant-loop-at : goal.invariant-loop-at
invariant-loop-at l = l.count ≡ count_by (is_lost (is_in l.enabled)) (take l.at (items_in l.instances))

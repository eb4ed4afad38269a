use Rattle.std.proofs.Common.{◌≡◌, ◌++◌, drop}
use Rattle.std.specs.List.{flat_map}
use Rattle.cil_macros.specs.Items.{items_in}
use Rattle.cil_names.specs.Entries.{is_in}
use Rattle.cil_names.specs.Unresolved.{faults_in}
use Rattle.cil_words.proofs.judge.judged.Given as goal

abbrev pub invariant-loop-at : goal.invariant-loop-at
invariant-loop-at l =
    l.faults.items ++ flat_map (faults_in (items_in l.instances) (is_in l.enabled)) (drop l.at (items_in l.instances)) ≡ flat_map (faults_in (items_in l.instances) (is_in l.enabled)) (items_in l.instances)

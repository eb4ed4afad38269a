use Rattle.std.specs.Prelude.{◌≡◌, map, take}
use Rattle.cil_declare.specs.Runs.{entry_of_run, said_by}
use Rattle.cil_declare.proofs.gather.entries_of.Given as goal

abbrev pub invariant-loop-run : goal.invariant-loop-run
invariant-loop-run l = map said_by l.entries.items ≡ map (entry_of_run l.instances) (take l.run-index l.runs)

use Rattle.std.specs.Prelude.{◌≡◌, take}
use Rattle.std.specs.List.{flat_map}
use Rattle.cil_declare.specs.Runs.{run_faults}
use Rattle.cil_declare.proofs.clash.clashes.Given as goal

abbrev pub invariant-loop-run : goal.invariant-loop-run
invariant-loop-run l = l.faults.items ≡ flat_map (run_faults l.instances) (take l.run-index l.runs)

use Rattle.std.specs.Prelude.{◌≡◌, ◌++◌, take}
use Rattle.std.specs.List.{flat_map}
use Rattle.cil_declare.specs.Runs.{row_faults}
use Rattle.cil_declare.proofs.clash.push_rows.Given as goal

abbrev pub invariant-loop-row : goal.invariant-loop-row
invariant-loop-row l = l.faults.items ≡ l.fn.faults.items ++ flat_map (row_faults l.instances) (take l.row-index l.rows)

use Rattle.std.specs.Prelude.{◌≡◌, take}
use Rattle.std.specs.List.{flat_map}
use Rattle.cil_conditions.specs.Gathered.{both_in}
use Rattle.cil_conditions.proofs.branches.rows_of.Given as goal

abbrev pub invariant-loop-one : goal.invariant-loop-one
invariant-loop-one l = l.rows.items ≡ flat_map both_in (take l.one-index l.found)

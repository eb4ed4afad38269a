use Rattle.std.specs.Prelude.{◌≡◌, Some, map, take}
use Rattle.cil_level_rows.proofs.users.all_there.Given as goal

abbrev pub invariant-loop-one : goal.invariant-loop-one
invariant-loop-one l = map Some l.rows.items ≡ take l.one-index l.kept

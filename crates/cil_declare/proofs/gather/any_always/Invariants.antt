use Rattle.std.proofs.Common.{◌≡◌, drop}
use Rattle.std.specs.List.{list_any}
use Rattle.cil_declare.specs.Runs.{is_always}
use Rattle.cil_declare.proofs.gather.any_always.Given as goal

abbrev pub invariant-loop-row : goal.invariant-loop-row
invariant-loop-row l = list_any (is_always l.instances) l.rows ≡ list_any (is_always l.instances) (drop l.row-index l.rows)

use Rattle.std.specs.Prelude.{◌≡◌, map, take}
use Rattle.std.specs.List.{flat_map}
use Rattle.cil_declare.specs.Runs.{rounds_by}
use Rattle.cil_declare.proofs.gather.rounds_of.Given as goal

abbrev pub invariant-loop-row : goal.invariant-loop-row
invariant-loop-row l = map (λ round. round.items) l.rounds.items ≡ flat_map (rounds_by l.instances) (take l.row-index l.rows)

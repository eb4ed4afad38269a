use Rattle.std.specs.Prelude.{take}
use Rattle.cil_declare.proofs.RunLemmas.{AllAlike}
use Rattle.cil_declare.proofs.run.is_differing.Given as goal

abbrev pub invariant-loop-row : goal.invariant-loop-row
invariant-loop-row l = AllAlike l.instances l.first (take l.row-index l.rows)

use Rattle.std.proofs.Common.{◌≡◌, take}
use Rattle.std.specs.Prelude.{All}
use Rattle.cil_modset.specs.Rows.{joined, IsFilled}
use Rattle.cil_modset.proofs.rows.copy_of_all.Given as goal

abbrev pub invariant-loop-row : goal.invariant-loop-row
invariant-loop-row l = record {
  same : joined l.copy.items ≡ joined (take l.row-index l.rows);
  filled : All IsFilled l.copy.items;
}

use Rattle.std.proofs.Common.{◌≡◌, ◌≤◌, length, take, drop}
use Rattle.std.specs.Prelude.{vec_capacity}
use Rattle.cil_modset.specs.Modules.{texts_of}
use Rattle.cil_modset.specs.Rows.{joined}
use Rattle.cil_modset.proofs.rows.take_all.Given as goal

abbrev pub invariant-loop-i : goal.invariant-loop-i
invariant-loop-i l = record {
  taken : texts_of l.all.items ≡ joined (take l.i l.initial.rows.items);
  left : drop l.i l.rows.items ≡ drop l.i l.initial.rows.items;
  size : length l.rows.items ≡ length l.initial.rows.items;
  room : l.count ≤ vec_capacity l.all;
}

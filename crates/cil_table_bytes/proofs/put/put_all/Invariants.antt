use Rattle.std.proofs.Common.{◌≡◌, ◌++◌, take}
use Rattle.std.specs.List.{flat_map}
use Rattle.cil_table_bytes.proofs.put.put_all.Given as goal

abbrev pub invariant-loop-record : goal.invariant-loop-record
invariant-loop-record g l = l.out.items ≡ l.fn.out.items ++ flat_map g.R.Put.spell (take l.record-index l.records)

use Rattle.std.proofs.Common.{◌≡◌, take}
use Rattle.cil_table_bytes.specs.Names.{widths_of}
use Rattle.cil_table_bytes.proofs.reading.widths_in.Given as goal

abbrev pub invariant-loop-class : goal.invariant-loop-class
invariant-loop-class l = l.widths.items ≡ widths_of (take l.class-index l.classes)

use Rattle.std.proofs.Common.{◌≡◌, ◌-◌, drop}
use Rattle.cil_format.specs.Fields.{texts_rise}
use Rattle.cil_table_bytes.proofs.classes.are_rising.Given as goal

abbrev pub invariant-loop-at : goal.invariant-loop-at
invariant-loop-at l = texts_rise (drop (l.at - 1) l.texts) ≡ texts_rise l.texts

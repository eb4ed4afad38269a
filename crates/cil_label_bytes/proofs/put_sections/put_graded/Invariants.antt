use Rattle.std.proofs.Common.{◌≡◌, ◌++◌, [], take}
use Rattle.std.specs.List.{flat_map}
use Rattle.cil_label_bytes.specs.Layout.{sensitivity, zipped}
use Rattle.cil_label_bytes.proofs.put_sections.put_graded.Given as goal

abbrev pub invariant-loop-at : goal.invariant-loop-at
invariant-loop-at l = l.out.items ≡ l.fn.out.items ++ flat_map (sensitivity 0 []).spell (zipped (take l.at l.names) (take l.at l.permitted))

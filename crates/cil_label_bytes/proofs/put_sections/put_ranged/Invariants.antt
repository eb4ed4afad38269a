use Rattle.std.proofs.Common.{◌≡◌, ◌++◌, [], take}
use Rattle.std.specs.List.{flat_map}
use Rattle.cil_format.specs.Format.{both}
use Rattle.cil_label_bytes.specs.Layout.{range, zipped}
use Rattle.cil_label_bytes.specs.Names.{name}
use Rattle.cil_label_bytes.proofs.put_sections.put_ranged.Given as goal

abbrev pub invariant-loop-at : goal.invariant-loop-at
invariant-loop-at l = l.out.items ≡ l.fn.out.items ++ flat_map (both name (λ n. range 0 [])).spell (zipped (take l.at l.names) (take l.at l.ranges))

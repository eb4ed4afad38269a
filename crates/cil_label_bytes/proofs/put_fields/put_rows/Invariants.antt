use Rattle.std.proofs.Common.{◌≡◌, ◌++◌, [], take}
use Rattle.std.specs.List.{flat_map}
use Rattle.cil_label_bytes.specs.Layout.{alias}
use Rattle.cil_label_bytes.proofs.put_fields.put_rows.Given as goal

abbrev pub invariant-loop-alias : goal.invariant-loop-alias
invariant-loop-alias l = l.out.items ≡ l.fn.out.items ++ flat_map (alias []).spell (take l.alias-index l.aliases)

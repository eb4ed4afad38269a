use Rattle.std.proofs.Common.{◌≡◌}
use Rattle.cil_label_bytes.specs.Layout.{lists_of}
use Rattle.cil_label_bytes.proofs.users.parted.Given as goal

abbrev pub invariant-loop-name : goal.invariant-loop-name
invariant-loop-name l = (l.names.items, l.ranges.items) ≡ lists_of l.yielded

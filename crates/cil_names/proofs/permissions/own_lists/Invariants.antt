use Rattle.std.specs.Prelude.{◌≡◌, length, take}
use Rattle.cil_macros.specs.Items.{items_in, namespaces_in}
use Rattle.cil_names.specs.Permissions.{AreListed, AreOwn}
use Rattle.cil_names.proofs.permissions.own_lists.Given as goal

abbrev pub invariant-loop-at : goal.invariant-loop-at
invariant-loop-at l =
    (length l.lists.items ≡ length l.entries) × AreOwn (namespaces_in l.instances) l.entries (take l.at (items_in l.instances)) l.lists.items
    × (length l.last.items ≡ length l.entries) × AreListed l.instances l.last.items l.lists.items

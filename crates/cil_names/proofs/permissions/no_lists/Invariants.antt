use Rattle.std.specs.Prelude.{take}
use Rattle.cil_names.specs.Permissions.{AreEmpty}
use Rattle.cil_names.proofs.permissions.no_lists.Given as goal

abbrev pub invariant-loop-entry : goal.invariant-loop-entry
invariant-loop-entry l = AreEmpty (take l._entry-index l.entries) l.lists.items

use Rattle.std.proofs.Common.{take}
use Rattle.cil_index.specs.Memberships.{IsNotedIn}
use Rattle.cil_index.proofs.memberships.add_set.Given as goal

abbrev pub invariant-loop-of_type : goal.invariant-loop-of_type
invariant-loop-of_type l = IsNotedIn l.fn.lists.items (take l.of_type-index l.of_type-items) l.number l.lists.items

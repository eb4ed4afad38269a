use Rattle.std.proofs.Common.{take}
use Rattle.cil_neverallow.specs.Permissions.{AreIn}
use Rattle.cil_neverallow.proofs.permissions.permissions_of.Given as goal

abbrev pub invariant-loop-rule : goal.invariant-loop-rule
invariant-loop-rule l = AreIn (take l.rule-index l.rules) l.masks.items

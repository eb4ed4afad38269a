use Rattle.std.proofs.Common.{take}
use Rattle.cil_neverallow.specs.Permissions.{AreApart}
use Rattle.cil_neverallow.proofs.permissions.name_some.Given as goal

abbrev pub invariant-loop-rule : goal.invariant-loop-rule
invariant-loop-rule l = AreApart l.masks (take l.rule-index l.rules)

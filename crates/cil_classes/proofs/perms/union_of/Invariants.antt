use Rattle.std.specs.Prelude.{take}
use Rattle.cil_classes.specs.Pushed.{IsUnionOf}
use Rattle.cil_classes.proofs.perms.union_of.Given as goal

abbrev pub invariant-loop-node : goal.invariant-loop-node
invariant-loop-node l = IsUnionOf l.masks (take l.node-index l.from) l.mask

use Rattle.std.specs.Prelude.{take}
use Rattle.cil_classes.specs.Pushed.{ArePushed}
use Rattle.cil_classes.proofs.perms.push_held.Given as goal

abbrev pub invariant-loop-one : goal.invariant-loop-one
invariant-loop-one l = ArePushed (take l.one-index l.held) l.from l.fn.out.items l.out.items

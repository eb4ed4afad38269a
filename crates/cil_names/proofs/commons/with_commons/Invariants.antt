use Rattle.std.specs.Prelude.{take}
use Rattle.cil_names.specs.Shared.{HaveCommons}
use Rattle.cil_names.proofs.commons.with_commons.Given as goal

abbrev pub invariant-loop-one : goal.invariant-loop-one
invariant-loop-one l = HaveCommons l.fn.lists.items (take l.one-index l.shared) l.all.items

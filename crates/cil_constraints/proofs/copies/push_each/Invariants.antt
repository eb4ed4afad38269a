use Rattle.std.specs.Prelude.{◌≡◌, ◌++◌, map, take}
use Rattle.cil_constraints.specs.Stated.{constraint_with}
use Rattle.cil_constraints.proofs.copies.push_each.Given as goal

abbrev pub invariant-loop-one : goal.invariant-loop-one
invariant-loop-one l = l.out.items ≡ l.fn.out.items ++ map (constraint_with l.steps) (take l.one-index l.masks)

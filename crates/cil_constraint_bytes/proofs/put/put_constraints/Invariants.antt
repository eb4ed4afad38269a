use Rattle.std.specs.Prelude.{ℕ, List, ◌++◌, length, take}
use Rattle.std.specs.Int.{w32, to_be_bytes}
use Rattle.std.specs.List.{flat_map}
use Rattle.cil_constraint_bytes.specs.Layout.{Limits, constraint}
use Rattle.cil_constraint_bytes.proofs.put.put_constraints.Given as goal

abbrev pub invariant-loop-constraint : goal.invariant-loop-constraint
invariant-loop-constraint g l =
    (limits : Limits) (before : List ℕ) → g.O.Out.holds l.fn.out before
    → g.O.Out.holds l.out ((before ++ to_be_bytes w32 (length l.constraints)) ++ flat_map (constraint limits).spell (take l.constraint-index l.constraints))

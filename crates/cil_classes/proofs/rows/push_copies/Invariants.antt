use Rattle.std.specs.Prelude.{◌≡◌, ◌++◌, map, take, List, ℕ}
use Rattle.cil_classes.proofs.rows.push_copies.Given as goal

abbrev pub invariant-loop-name : goal.invariant-loop-name
invariant-loop-name l = l.copies.items ≡ l.fn.copies.items ++ map (λ (n : List ℕ). n) (take l.name-index l.names)

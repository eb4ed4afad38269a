use Rattle.std.specs.Prelude.{◌≡◌, ◌++◌, map, take, List, ℕ}
use Rattle.cil_names.proofs.commons.push_copies.Given as goal

abbrev pub invariant-loop-name : goal.invariant-loop-name
invariant-loop-name l = l.names.items ≡ l.fn.names.items ++ map (λ (n : List ℕ). n) (take l.name-index l.more)

use Rattle.std.proofs.Common.{◌≡◌, ◌≤◌, ◌++◌, drop, length}
use Rattle.std.specs.List.{flat_map}
use Rattle.cil_names.specs.Sought.{could_name}
use Rattle.cil_names.proofs.look.push_candidates.Given as goal

abbrev pub invariant-loop-from : goal.invariant-loop-from
invariant-loop-from l =
    (l.found.items ++ flat_map (could_name l.namespaces l.entries l.word) (drop l.from-index l.from-items) ≡ l.fn.found.items ++ flat_map (could_name l.namespaces l.entries l.word) l.from-items)
    × (length l.fn.found.items ≤ length l.found.items)

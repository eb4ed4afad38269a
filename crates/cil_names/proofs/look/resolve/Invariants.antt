use Rattle.std.proofs.Common.{◌≡◌, drop}
use Rattle.std.specs.Prelude.{find}
use Rattle.std.specs.List.{flat_map}
use Rattle.cil_names.specs.Entries.{is_declared_at, is_in}
use Rattle.cil_names.specs.Sought.{could_name}
use Rattle.cil_names.proofs.look.resolve.Given as goal

abbrev pub invariant-loop-from : goal.invariant-loop-from
invariant-loop-from l =
    find (is_declared_at (is_in l.enabled) l.entries) (flat_map (could_name l.namespaces l.entries l.word) l.from-items)
    ≡ find (is_declared_at (is_in l.enabled) l.entries) (flat_map (could_name l.namespaces l.entries l.word) (drop l.from-index l.from-items))

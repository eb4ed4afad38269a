use Rattle.std.proofs.Common.{◌≡◌, ◌++◌, drop}
use Rattle.std.specs.List.{flat_map}
use Rattle.cil_names.specs.Entries.{is_in}
use Rattle.cil_known.specs.Numbers.{name_given}
use Rattle.cil_known.proofs.numbers.given.Given as goal

abbrev pub invariant-loop-entry : goal.invariant-loop-entry
invariant-loop-entry l =
    l.names.items ++ flat_map (name_given l.namespaces (is_in l.enabled) l.kind) (drop l.entry-index l.entries) ≡ flat_map (name_given l.namespaces (is_in l.enabled) l.kind) l.entries

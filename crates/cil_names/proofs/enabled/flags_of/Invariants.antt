use Rattle.std.specs.Prelude.{◌≡◌, map, take}
use Rattle.cil_names.specs.Entries.{is_declared_in, is_in}
use Rattle.cil_names.proofs.enabled.flags_of.Given as goal

abbrev pub invariant-loop-entry : goal.invariant-loop-entry
invariant-loop-entry l = l.flags.items ≡ map (is_declared_in (is_in l.enabled)) (take l.entry-index l.entries)

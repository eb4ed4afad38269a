use Rattle.std.specs.Prelude.{◌≡◌, ◌++◌, map, take}
use Rattle.cil_known.specs.Numbers.{spelled_of}
use Rattle.cil_tables.specs.AliasRows.{alias_to}
use Rattle.cil_tables.proofs.aliases.push_all.Given as goal

abbrev pub invariant-loop-target : goal.invariant-loop-target
invariant-loop-target l = l.aliases.items ≡ l.initial.aliases.items ++ map (alias_to (spelled_of l.namespaces l.entry)) (take l.target-index l.target-items)

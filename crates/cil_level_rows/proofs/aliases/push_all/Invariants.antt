use Rattle.std.specs.Prelude.{◌≡◌, ◌++◌, map, take}
use Rattle.cil_known.specs.Numbers.{spelled_of}
use Rattle.cil_level_rows.specs.AliasEntries.{alias_to}
use Rattle.cil_level_rows.proofs.aliases.push_all.Given as goal

abbrev pub invariant-loop-number : goal.invariant-loop-number
invariant-loop-number l = l.aliases.items ≡ l.initial.aliases.items ++ map (alias_to l.places (spelled_of l.namespaces l.entry)) (take l.number-index l.number-items)

use Rattle.std.specs.Prelude.{◌≡◌, ◌↔◌, Contains, take, true}
use Rattle.cil_tables.specs.declared.tables.Boolean.{Boolean}
use Rattle.cil_tables.specs.Table.{boolean_names}
use Rattle.cil_tables.proofs.booleans.with_defaults.Given as goal

abbrev pub invariant-loop-name : goal.invariant-loop-name
invariant-loop-name l = (boolean_names l.booleans.items ≡ take l.name-index l.names) × ((b : Boolean) → Contains l.booleans.items b → (b.default ≡ true) ↔ Contains l.on b.name)

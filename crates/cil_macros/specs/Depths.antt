-- How deep the terms of what is placed nest: no deeper than those of a statement. What is put in may be a list, and is not counted here.
-- This project's profile.
use Rattle.std.specs.Prelude.{List, Contains, Some}
use Rattle.cil_syntax.specs.Depths.{AllNest, most_nested}
use Rattle.cil_macros.specs.Placed.{Placed}

-- what is written of what is placed nests no deeper
abbrev pub ArePlacedShallow : List Placed → Type 0
ArePlacedShallow ps = (p : Placed) → Contains ps p → AllNest (Some most_nested) p.standing.statement.statement.args

use Rattle.std.proofs.Common.{◌≡◌, ◌++◌, List, map, take}
use Rattle.cil_syntax.specs.Written.{Written}
use Rattle.cil_blocks.specs.Entries.{standings_of, stepped}
use Rattle.cil_blocks.proofs.walker.push_all.Given as goal

abbrev pub invariant-loop-number : goal.invariant-loop-number
invariant-loop-number l =
    (ws : List Written) → standings_of ws l.entries.items ≡ standings_of ws l.fn.entries.items ++ map (stepped ws (standings_of ws l.fn.entries.items) l.opener) (take l.number-index l.numbers)

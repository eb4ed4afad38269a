-- What stands, and what is placed, is written.
use Rattle.std.proofs.Common.{List}
use Rattle.std.specs.Prelude.{Contains}
use Rattle.cil_syntax.specs.Written.{Written}
use Rattle.cil_blocks.specs.Contents.{Standing, Stands, in_block, in_branch as branch_stands, in_optional as optional_stands, inherited, top}
use Rattle.cil_macros.specs.Calls.{IsPlaced, called, in_branch, in_optional, stands}
use Rattle.cil_macros.specs.Placed.{Placed}

pub stands_written : (ws : List Written) (s : Standing) → Stands ws s → Contains ws s.statement
stands_written ws s (top w c u) = c
stands_written ws s (in_block p w sp b a c u) = c
stands_written ws s (optional_stands p w sp o c u) = c
stands_written ws s (branch_stands p w sp o c u) = c
stands_written ws s (inherited p b w sp i t c u) = c

pub written_of : (ws : List Written) (ss : List Standing) → ((s : Standing) → Contains ss s → Stands ws s) → (p : Placed) → IsPlaced ws ss p
    → Contains ws p.standing.statement
written_of ws ss each p (stands s c) = stands_written ws s (each s c)
written_of ws ss each p (called q u w ip e c i) = c
written_of ws ss each p (in_optional q b w ip e o c i) = c
written_of ws ss each p (in_branch q b w ip e o c i) = c

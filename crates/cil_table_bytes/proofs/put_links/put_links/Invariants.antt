use Rattle.std.specs.Prelude.{ℕ, List, ◌++◌, length}
use Rattle.std.specs.Int.{w32, to_be_bytes}
use Rattle.cil_tables.specs.Holders.{links_from}
use Rattle.cil_table_bytes.proofs.WriteLemmas.{ArePutTo}
use Rattle.cil_table_bytes.proofs.put_links.put_links.Given as goal

abbrev pub invariant-loop-holder : goal.invariant-loop-holder
invariant-loop-holder g l = (before : List ℕ) → g.O.Out.holds l.fn.out before → ArePutTo g.O.Out.holds l.rows (before ++ to_be_bytes w32 (length (links_from 0 l.rows))) l.holder l.out

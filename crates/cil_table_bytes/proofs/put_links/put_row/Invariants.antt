use Rattle.std.proofs.Common.{◌≡◌, ◌++◌, map, take}
use Rattle.cil_tables.specs.Holders.{link_to}
use Rattle.cil_table_bytes.specs.Told.{links_bytes}
use Rattle.cil_table_bytes.proofs.put_links.put_row.Given as goal

abbrev pub invariant-loop-held : goal.invariant-loop-held
invariant-loop-held l = l.out.items ≡ l.fn.out.items ++ links_bytes (map (link_to l.holder) (take l.held-index l.row))

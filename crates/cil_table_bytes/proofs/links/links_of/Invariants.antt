use Rattle.std.proofs.Common.{take}
use Rattle.std.specs.List.{Contains}
use Rattle.cil_base.specs.Lists.{Lists}
use Rattle.cil_tables.specs.Table.{link_cmp}
use Rattle.cil_table_bytes.proofs.links.links_of.Given as goal

abbrev pub invariant-loop-link : goal.invariant-loop-link
invariant-loop-link l = Lists link_cmp (Contains (take l.link-index l.listed)) l.links

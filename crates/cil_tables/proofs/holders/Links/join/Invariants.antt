use Rattle.std.specs.Prelude.{take}
use Rattle.cil_base.specs.Lists.{Lists}
use Rattle.cil_tables.specs.Table.{link_cmp}
use Rattle.cil_tables.proofs.HolderLemmas.{AreWith}
use Rattle.cil_tables.proofs.holders.Links.join.Given as goal

abbrev pub invariant-loop-holder : goal.invariant-loop-holder
invariant-loop-holder l = Lists link_cmp (AreWith l.initial.self (take l.holder-index l.holder-items) l.helds) l.self

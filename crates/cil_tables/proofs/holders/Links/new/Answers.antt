use Rattle.std.proofs.Common.{ap}
use Rattle.cil_tables.specs.Holders.{links_from}
use Rattle.cil_tables.proofs.holders.Links.new.Goals as goal

pub returns : goal.returns
unfolding links_from
returns c = ap (links_from 0) c.new.ensures.items

use Rattle.std.proofs.Common.{refl, arith}
use Rattle.cil_sexpr.proofs.Clean.{clean_start}
use Rattle.cil_sexpr.proofs.Order.{nodes_in_order}
use Rattle.cil_sexpr.proofs.reader.read.Goals as goal

pub read_level-requires-clause-clean : goal.read_level-requires-clause-clean
read_level-requires-clause-clean c = clean_start _ (omega arith)

pub returns-clause-places : goal.returns-clause-places
returns-clause-places c =
    let level = c.in_ok-nodes.ensures.level in
    rw (level.ends.top refl) at (nodes_in_order _ 0 0 _ _ level.stand)

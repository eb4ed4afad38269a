use Rattle.cil_base.proofs.SearchLemmas.{answered}
use Rattle.cil_classes.proofs.NodeLemmas.{node_searched}
use Rattle.cil_classes.proofs.nodes.place_of.Goals as goal

pub returns : goal.returns
returns c =
    let both = answered _ _ _ _ c.ok.ensures.value
    (node_searched c.args.nodes.now c.args.node c.binary_search.result c.requires c.binary_search.ensures.bound c.binary_search.ensures.position) in
    record { found = both.0; none = both.1 }

use Rattle.cil_attrs.specs.macros.Items.{items_in}
use Rattle.cil_mls.specs.SetEdges.{IsSetEdgeIn}
use Rattle.cil_mls.proofs.SetEdgeLemmas.{leads_sorted}
use Rattle.cil_mls.proofs.category_sets.set_edges.Goals as goal

pub returns-clause-edges : goal.returns-clause-edges
returns-clause-edges c = leads_sorted c.in_ok-edges.edges.items c.sorted.result.items c.sorted.ensures.same (IsSetEdgeIn c.args.known.now (items_in c.args.instances.now)) c.in_ok-edges.ensures

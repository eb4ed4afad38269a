use Rattle.cil_settle.proofs.CheckLemmas.{turned_sorted, turned_within}
use Rattle.cil_settle.proofs.check.turned_edges.Goals as goal

pub returns-clause-turned : goal.returns-clause-turned
returns-clause-turned c = turned_sorted c.args.edges.now _ _ c.sorted.ensures.same c.in_ok-turned.ensures

pub returns-clause-within : goal.returns-clause-within
returns-clause-within c = turned_within c.args.edges.now _ c.args.nodes c.requires (turned_sorted c.args.edges.now _ _ c.sorted.ensures.same c.in_ok-turned.ensures)

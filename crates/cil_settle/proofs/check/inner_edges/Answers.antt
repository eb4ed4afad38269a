use Rattle.cil_settle.proofs.CheckLemmas.{inner_sorted, inner_within}
use Rattle.cil_settle.proofs.check.inner_edges.Goals as goal

pub returns-clause-inner : goal.returns-clause-inner
returns-clause-inner c = inner_sorted c.args.edges.now _ _ _ _ c.sorted.ensures.same c.in_ok-inner.ensures

pub returns-clause-within : goal.returns-clause-within
returns-clause-within c = inner_within c.args.edges.now c.args.guess.now.roots.items c.args.guess.now.ranks.items _ c.args.nodes c.requires (inner_sorted c.args.edges.now _ _ _ _ c.sorted.ensures.same c.in_ok-inner.ensures)

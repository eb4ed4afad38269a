use Rattle.cil_blocks.proofs.GraphLemmas.{steps_moved}
use Rattle.cil_blocks.proofs.graph.edges_of.Goals as goal

pub returns-clause-steps : goal.returns-clause-steps
returns-clause-steps c =
    steps_moved c.args.steps.now.parts.now c.args.steps.now.targets.now c.args.steps.now.count c.in_ok-edges.edges.items _ c.sorted.ensures.same c.in_ok-edges.ensures

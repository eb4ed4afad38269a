use Rattle.cil_classes.proofs.NodeLemmas.{run_is}
use Rattle.cil_classes.proofs.nodes.run_of.Goals as goal

pub returns-clause-run : goal.returns-clause-run
returns-clause-run c = run_is c.args.nodes.now c.args.entry _ c.start_of.ensures c.end_of.ensures.parts

use Rattle.cil_declare.specs.Runs.{rounds_by}
use Rattle.cil_declare.proofs.Lists.{gave_all, gave_more}
use Rattle.cil_declare.proofs.gather.rounds_of.Goals as goal

pub loop-row-preserved : goal.loop-row-preserved
loop-row-preserved c = gave_more (rounds_by c.args.instances.now) _ _ _ _ _ c.loop-row-test.true c.row-item.is c.loop-row.invariant c.in_ok-push_round.ensures

pub returns : goal.returns
returns c = gave_all (rounds_by c.args.instances.now) _ _ _ c.loop-row.invariant c.loop-row-test.false

use Rattle.std.proofs.Common.{sym}
use Rattle.cil_declare.specs.Runs.{run_faults}
use Rattle.cil_declare.proofs.Lists.{gave_all, gave_more}
use Rattle.cil_declare.proofs.clash.clashes.Goals as goal

pub push_run-requires : goal.push_run-requires
push_run-requires c = c.requires _ (c.loop-run.run-index, c.loop-run-test.true, sym c.run-item.is)

pub loop-run-preserved : goal.loop-run-preserved
loop-run-preserved c = gave_more (run_faults c.args.instances.now) _ _ _ _ _ c.loop-run-test.true c.run-item.is c.loop-run.invariant c.in_ok-push_run.ensures

pub returns : goal.returns
returns c = gave_all (run_faults c.args.instances.now) _ _ _ c.loop-run.invariant c.loop-run-test.false

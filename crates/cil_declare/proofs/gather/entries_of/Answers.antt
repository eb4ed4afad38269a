use Rattle.cil_declare.proofs.EntryLemmas.{said_all, said_more}
use Rattle.cil_declare.proofs.gather.entries_of.Goals as goal

pub loop-run-preserved : goal.loop-run-preserved
loop-run-preserved c = said_more c.args.instances.now _ _ _ _ _ _ c.loop-run-test.true c.run-item.is c.loop-run.invariant c.in_ok-push_entry.ensures c.in_ok-entry_of.ensures

pub returns : goal.returns
returns c = said_all c.args.instances.now _ _ _ c.loop-run.invariant c.loop-run-test.false

use Rattle.std.proofs.Common.{sym, subst, arith}
use Rattle.cil_declare.proofs.RunLemmas.{AreRunsUpTo, last_run, next_run, no_runs}
use Rattle.cil_declare.proofs.run.runs_of.Goals as goal

pub loop-start-init : goal.loop-start-init
loop-start-init c = subst (λ runs. AreRunsUpTo c.args.instances.now c.args.rows.now runs 0) (sym c.new-runs.ensures.items) (no_runs c.args.instances.now c.args.rows.now)

pub loop-start-preserved : goal.loop-start-preserved
loop-start-preserved c = next_run _ _ _ _ _ _ c.in_ok-run.ensures c.loop-start.invariant c.in_ok-push.ensures.items

pub loop-start-smaller : goal.loop-start-smaller
loop-start-smaller c =
    let some = c.in_ok-run.ensures.some in
    let test = c.loop-start-test.true in omega (arith, some, test)

pub returns : goal.returns
returns c = last_run _ _ _ _ c.loop-start-test.false c.loop-start.invariant

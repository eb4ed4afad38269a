use Rattle.cil_locate.specs.Windows.{is_in_line}
use Rattle.cil_locate.proofs.ByteLemmas.{newline_ends, other_goes_on}
use Rattle.cil_locate.proofs.RunLemmas.{run_ends, run_more, run_none, run_whole}
use Rattle.cil_locate.proofs.window.line_run.Goals as goal

pub loop-count-init : goal.loop-count-init
loop-count-init c = run_none is_in_line _ _ _

pub returns-then-text-at-eq10-clause-run : goal.returns-then-text-at-eq10-clause-run
returns-then-text-at-eq10-clause-run c =
    run_ends is_in_line _ _ _ _ c.loop-count-test.true (newline_ends _ c.if-text-at-eq10.true) c.loop-count.invariant

pub loop-count-preserved : goal.loop-count-preserved
loop-count-preserved c =
    run_more is_in_line _ _ _ _ c.loop-count-test.true (other_goes_on _ c.if-text-at-eq10.false) c.loop-count.invariant

pub returns-clause-run : goal.returns-clause-run
returns-clause-run c = run_whole is_in_line _ _ _ _ c.loop-count-test.false c.loop-count.invariant

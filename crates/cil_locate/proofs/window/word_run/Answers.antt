use Rattle.std.proofs.Common.{◌∙◌, sym}
use Rattle.cil_locate.specs.Windows.{is_in_word}
use Rattle.cil_locate.proofs.RunLemmas.{run_ends, run_more, run_none, run_whole}
use Rattle.cil_locate.proofs.window.word_run.Goals as goal

pub loop-count-init : goal.loop-count-init
loop-count-init c = run_none is_in_word _ _ _

pub returns-then-not-is_word_byte-clause-run : goal.returns-then-not-is_word_byte-clause-run
returns-then-not-is_word_byte-clause-run c =
    run_ends is_in_word _ _ _ _ c.loop-count-test.true (sym c.is_word_byte.ensures ∙ c.if-not-is_word_byte.true) c.loop-count.invariant

pub loop-count-preserved : goal.loop-count-preserved
loop-count-preserved c =
    run_more is_in_word _ _ _ _ c.loop-count-test.true (sym c.is_word_byte.ensures ∙ c.if-not-is_word_byte.false) c.loop-count.invariant

pub returns-clause-run : goal.returns-clause-run
returns-clause-run c = run_whole is_in_word _ _ _ _ c.loop-count-test.false c.loop-count.invariant

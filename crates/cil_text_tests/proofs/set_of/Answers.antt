use Rattle.cil_text_tests.proofs.SetLemmas.{all_texts, next_text, of_none}
use Rattle.cil_text_tests.proofs.set_of.Goals as goal

pub loop-text-init : goal.loop-text-init
loop-text-init c = of_none _ c.new-modules.ensures

pub loop-text-preserved : goal.loop-text-preserved
loop-text-preserved c =
    next_text c.args.texts.now c.loop-text.text-index _ c.loop-text.modules c.install.new.self c.as_bytes.result.now c.install.result c.in_ok-install.field-0
    c.loop-text-test.true c.as_bytes.ensures.value c.install.ensures c.in_ok-install.was c.loop-text.invariant

pub returns : goal.returns
returns c = all_texts c.args.texts.now c.loop-text.text-index c.loop-text.modules c.loop-text-test.false c.loop-text.invariant

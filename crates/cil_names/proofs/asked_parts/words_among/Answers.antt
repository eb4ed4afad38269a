use Rattle.cil_names.proofs.AskedPartLemmas.{words_all, words_on}
use Rattle.cil_names.proofs.asked_parts.words_among.Goals as goal

pub loop-part-preserved : goal.loop-part-preserved
loop-part-preserved c = λ ps.
    words_on ps c.args.parts.now c.loop-part.part-index c.part-item.result _ c.loop-part.words.items _ _ c.loop-part-test.true c.part-item.is (c.loop-part.invariant ps) (c.in_ok-push_word.ensures ps)

pub returns : goal.returns
returns c = λ ps. words_all ps c.args.parts.now c.loop-part.part-index c.loop-part.words.items _ c.loop-part-test.false (c.loop-part.invariant ps)

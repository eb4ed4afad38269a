use Rattle.cil_constraints.proofs.WordLemmas.{all_words, none_yet, one_more_word}
use Rattle.cil_constraints.proofs.words.add_words.Goals as goal

pub loop-part-init : goal.loop-part-init
loop-part-init c = none_yet c.args.sets.now c.args.module c.args.parts.now c.args.words.now _

pub loop-part-preserved : goal.loop-part-preserved
loop-part-preserved c =
    one_more_word c.args.sets.now c.args.module c.args.parts.now c.args.words.now c.loop-part.part-index c.part-item.result c.part-item.result _ _ _ c.loop-part-test.true c.part-item.is
    c.loop-part.invariant c.part-item.is _ _ c.in_ok-rest.ensures

pub returns : goal.returns
returns c = all_words c.args.sets.now c.args.module c.args.parts.now c.args.words.now c.loop-part.part-index _ _ _ c.loop-part-test.false c.loop-part.invariant

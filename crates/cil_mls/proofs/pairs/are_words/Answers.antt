use Rattle.std.proofs.Common.{sym, ◌∙◌}
use Rattle.cil_mls.proofs.WordListLemmas.{last_word, next_word, no_word}
use Rattle.cil_mls.proofs.pairs.are_words.Goals as goal

pub returns-then-not-is_word : goal.returns-then-not-is_word
returns-then-not-is_word c m =
    sym (no_word m c.args.parts.now c.loop-part.part-index c.part-item.result c.loop-part-test.true c.part-item.is (sym (c.is_word.ensures m) ∙ c.if-not-is_word.true)) ∙ c.loop-part.invariant m

pub loop-part-preserved : goal.loop-part-preserved
loop-part-preserved c m =
    sym (next_word m c.args.parts.now c.loop-part.part-index c.part-item.result c.loop-part-test.true c.part-item.is (sym (c.is_word.ensures m) ∙ c.if-not-is_word.false)) ∙ c.loop-part.invariant m

pub returns : goal.returns
returns c m = sym (last_word m c.args.parts.now c.loop-part.part-index c.loop-part-test.false) ∙ c.loop-part.invariant m

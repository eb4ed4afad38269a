use Rattle.std.proofs.Common.{refl, sym, ◌∙◌, ap}
use Rattle.cil_names.proofs.WordedLemmas.{all_lack, form_holds, leaf_holds, name_lacks, one_holds, one_lacks, word_among}
use Rattle.cil_names.proofs.worded.+words.Goals as goal

pub holds_word-returns-in-Leaf : goal.holds_word-returns-in-Leaf
holds_word-returns-in-Leaf t c m = leaf_holds m c.args.term.now c.in-Leaf.field-0 c.in-Leaf.is

pub holds_word-returns-in-Name : goal.holds_word-returns-in-Name
holds_word-returns-in-Name t c m = name_lacks m c.args.term.now c.in-Name.field-0 c.in-Name.field-1 c.in-Name.is

pub holds_word-returns-in-Form : goal.holds_word-returns-in-Form
holds_word-returns-in-Form t c m =
    c.has_word.ensures m ∙ ap (word_among m) c.as_slice.ensures.value ∙ sym (form_holds m c.args.term.now c.in-Form.field-1 c.in-Form.field-0 c.in-Form.parts c.in-Form.is)

pub has_word-loop-term-init : goal.has_word-loop-term-init
has_word-loop-term-init t c m = refl

pub has_word-loop-term-preserved : goal.has_word-loop-term-preserved
has_word-loop-term-preserved t c m =
    one_lacks m c.args.terms.now c.loop-term.term-index c.term-item.result c.term-item.result c.loop-term-test.true c.term-item.is (c.loop-term.invariant m)
    (sym (c.holds_word.ensures m) ∙ c.if-holds_word.false)

pub has_word-returns-then-holds_word : goal.has_word-returns-then-holds_word
has_word-returns-then-holds_word t c m =
    one_holds m c.args.terms.now c.loop-term.term-index c.term-item.result c.term-item.result c.loop-term-test.true c.term-item.is (c.loop-term.invariant m)
    (sym (c.holds_word.ensures m) ∙ c.if-holds_word.true)

pub has_word-returns : goal.has_word-returns
has_word-returns t c m = all_lack m c.args.terms.now c.loop-term.term-index c.loop-term-test.false (c.loop-term.invariant m)

use Rattle.std.proofs.Common.{◌∙◌, ap, drop, length}
use Rattle.std.proofs.lemmas.List.{take_all}
use Rattle.cil_known.proofs.LeafLemmas.{all_leaves, behind_leaf, behind_more, behind_name, behind_none, behind_parts}
use Rattle.cil_known.proofs.meanings_behind.+words.Goals as goal

pub behind_words-loop-term-init : goal.behind_words-loop-term-init
behind_words-loop-term-init t c = λ m. behind_none m c.args.words.now

pub behind_words-loop-term-preserved : goal.behind_words-loop-term-preserved
behind_words-loop-term-preserved t c = λ m.
    behind_more m c.args.words.now c.args.terms.now _ c.term-item.result _ _ c.loop-term-test.true c.term-item.is (c.loop-term.invariant m) (c.behind_word-rest.ensures m)

pub behind_words-returns : goal.behind_words-returns
behind_words-returns t c = λ m.
    c.loop-term.invariant m ∙ ap (λ ts. drop (length (all_leaves m ts)) c.args.words.now) (take_all c.loop-term.term-index c.args.terms.now c.loop-term-test.false)

pub behind_word-returns-in-Leaf : goal.behind_word-returns-in-Leaf
behind_word-returns-in-Leaf t c = λ m. behind_leaf m c.args.words.now c.args.term.now _ _ c.in-Leaf.is c.behind_first.ensures

pub behind_word-returns-in-Name : goal.behind_word-returns-in-Name
behind_word-returns-in-Name t c = λ m. behind_name m c.args.words.now c.args.term.now _ _ c.in-Name.is

pub behind_word-returns-in-Form : goal.behind_word-returns-in-Form
behind_word-returns-in-Form t c = λ m.
    behind_parts m c.args.words.now c.args.term.now _ _ c.in-Form.parts c.as_slice.result.now _ c.in-Form.is c.as_slice.ensures.value (c.behind_words.ensures m)

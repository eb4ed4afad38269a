use Rattle.cil_classes.proofs.FormedLemmas.{no_set_form, no_word_and_term, set_form}
use Rattle.cil_classes.proofs.gift_terms.set_term.Goals as goal

pub returns-then-terms-ne2 : goal.returns-then-terms-ne2
returns-then-terms-ne2 c = λ m. no_word_and_term m c.args.terms.now c.if-terms-ne2.true

pub returns-then-not-is_leaf : goal.returns-then-not-is_leaf
returns-then-not-is_leaf c = λ m. no_set_form m c.args.terms.now c.index-terms-0.result c.index-terms-0.is (c.is_leaf.ensures.none c.if-not-is_leaf.true m)

pub returns : goal.returns
returns c = λ m. set_form m c.args.terms.now c.index-terms-0.result _ c.if-terms-ne2.false c.index-terms-0.is (c.is_leaf.ensures.leaf c.if-not-is_leaf.false) c.index-terms-1.is

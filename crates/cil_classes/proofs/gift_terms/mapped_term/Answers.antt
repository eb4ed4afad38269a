use Rattle.cil_classes.proofs.FormedLemmas.{mapping_form, no_first_word, no_second_word, no_three}
use Rattle.cil_classes.proofs.gift_terms.mapped_term.Goals as goal

pub returns-then-terms-ne3 : goal.returns-then-terms-ne3
returns-then-terms-ne3 c = λ m. no_three m c.args.terms.now c.if-terms-ne3.true

pub returns-then-not-is_leaf : goal.returns-then-not-is_leaf
returns-then-not-is_leaf c = λ m. no_first_word m c.args.terms.now c.index-terms-0.result c.index-terms-0.is (c.is_leaf.ensures.none c.if-not-is_leaf.true m)

pub returns-then-not-is_leaf-2 : goal.returns-then-not-is_leaf-2
returns-then-not-is_leaf-2 c = λ m.
    no_second_word m c.args.terms.now c.index-terms-0.result c.index-terms-1.result c.if-terms-ne3.false c.index-terms-0.is (c.is_leaf.ensures.leaf c.if-not-is_leaf.false) c.index-terms-1.is
    (c.is_leaf-2.ensures.none c.if-not-is_leaf-2.true m)

pub returns : goal.returns
returns c = λ m.
    mapping_form m c.args.terms.now c.index-terms-0.result c.index-terms-1.result _ c.if-terms-ne3.false c.index-terms-0.is (c.is_leaf.ensures.leaf c.if-not-is_leaf.false) c.index-terms-1.is
    (c.is_leaf-2.ensures.leaf c.if-not-is_leaf-2.false) c.index-terms-2.is

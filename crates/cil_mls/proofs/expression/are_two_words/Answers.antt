use Rattle.std.proofs.Common.{arith}
use Rattle.cil_mls.proofs.ValueLemmas.{first_not, leaf_as, no_leaf_as, not_two_said, second_not, two_of, two_said}
use Rattle.cil_mls.proofs.expression.are_two_words.Goals as goal

pub returns-then-parts-ne2 : goal.returns-then-parts-ne2
returns-then-parts-ne2 c = not_two_said c.args.parts.now (λ e. omega (arith, e, c.if-parts-ne2.true))

pub returns-then-not-is_leaf : goal.returns-then-not-is_leaf
returns-then-not-is_leaf c =
    let r = c.index-parts-0.result in
    first_not c.args.parts.now _ _ (two_of c.args.parts.now r r (omega (arith, c.if-parts-ne2.false))) (no_leaf_as r _ c.index-parts-0.is c.if-not-is_leaf.ensures)

pub returns-then-not-is_leaf-2 : goal.returns-then-not-is_leaf-2
returns-then-not-is_leaf-2 c =
    let r = c.index-parts-1.result in
    second_not c.args.parts.now _ _ (two_of c.args.parts.now r r (omega (arith, c.if-parts-ne2.false))) (no_leaf_as r _ c.index-parts-1.is c.if-not-is_leaf-2.ensures)

pub returns : goal.returns
returns c =
    two_said c.args.parts.now _ _ (two_of c.args.parts.now c.index-parts-0.result c.index-parts-1.result (omega (arith, c.if-parts-ne2.false)))
    (leaf_as c.index-parts-0.result _ c.index-parts-0.is c.if-not-is_leaf.ensures) (leaf_as c.index-parts-1.result _ c.index-parts-1.is c.if-not-is_leaf-2.ensures)

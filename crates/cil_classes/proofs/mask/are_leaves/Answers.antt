use Rattle.cil_classes.proofs.MaskLemmas.{more_leaves, no_leaves}
use Rattle.cil_classes.proofs.mask.are_leaves.Goals as goal

pub loop-term-init : goal.loop-term-init
loop-term-init c = no_leaves

pub loop-term-preserved : goal.loop-term-preserved
loop-term-preserved c = more_leaves c.args.terms.now c.loop-term.term-index c.term-item.result c.loop-term-test.true c.term-item.is c.loop-term.invariant (c.is_leaf.ensures.leaf c.if-not-is_leaf.false)

use Rattle.std.proofs.Common.{get_or, refl}
use Rattle.cil_classes.proofs.PushLemmas.{more_union, no_union, whole_union}
use Rattle.cil_classes.proofs.perms.union_of.Goals as goal

pub loop-node-init : goal.loop-node-init
loop-node-init c = no_union c.args.masks.now c.args.from.now

pub loop-node-preserved : goal.loop-node-preserved
loop-node-preserved c =
    more_union c.args.masks.now c.args.from.now c.loop-node.node-index 0 c.loop-node.mask c.mask_at-mask.result c.loop-node-test.true (get_or c.args.from.now c.loop-node.node-index 0) refl
    c.mask_at-mask.ensures c.loop-node.invariant

pub returns : goal.returns
returns c = whole_union c.args.masks.now c.args.from.now c.loop-node.node-index c.loop-node.mask c.loop-node-test.false c.loop-node.invariant

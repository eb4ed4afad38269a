use Rattle.std.specs.Prelude.{get_or}
use Rattle.std.proofs.Common.{refl}
use Rattle.cil_base.specs.MadeLists.{all_mapped, one_mapped}
use Rattle.std.proofs.lemmas.Result.{IfOk-from_err}
use Rattle.cil_classes.specs.Assigned.{edge_to}
use Rattle.cil_classes.proofs.assigned.push_edges.Goals as goal

pub loop-node-preserved : goal.loop-node-preserved
loop-node-preserved c =
    one_mapped (edge_to c.args.to) c.args.from.now c.loop-node.node-index (get_or c.args.from.now c.loop-node.node-index 0) 0 c.args.edges.now.items c.loop-node.edges.items _ c.loop-node-test.true refl
    c.loop-node.invariant c.in_ok-push.ensures.items

pub returns : goal.returns
returns c = all_mapped (edge_to c.args.to) c.args.from.now c.loop-node.node-index c.args.edges.now.items _ c.loop-node-test.false c.loop-node.invariant

pub returns-in_err-push : goal.returns-in_err-push
returns-in_err-push c = IfOk-from_err c.from_residual.result _ c.from_residual.ensures.0

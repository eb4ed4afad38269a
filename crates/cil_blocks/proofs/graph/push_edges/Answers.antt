use Rattle.std.specs.Prelude.{get_or}
use Rattle.std.proofs.Common.{refl}
use Rattle.std.proofs.lemmas.Result.{IfOk-from_err}
use Rattle.cil_base.specs.MadeLists.{all_mapped, one_mapped}
use Rattle.cil_blocks.specs.Steps.{edge_from}
use Rattle.cil_blocks.proofs.graph.push_edges.Goals as goal

pub loop-number-preserved : goal.loop-number-preserved
loop-number-preserved c =
    one_mapped (edge_from c.args.from) c.args.numbers.now c.loop-number.number-index (get_or c.args.numbers.now c.loop-number.number-index 0) 0 c.args.edges.now.items
    c.loop-number.edges.items _ c.loop-number-test.true refl c.loop-number.invariant c.in_ok-push.ensures.items

pub returns : goal.returns
returns c = all_mapped (edge_from c.args.from) c.args.numbers.now c.loop-number.number-index c.args.edges.now.items _ c.loop-number-test.false c.loop-number.invariant

pub returns-in_err-push : goal.returns-in_err-push
returns-in_err-push c = IfOk-from_err c.from_residual.result _ c.from_residual.ensures.0

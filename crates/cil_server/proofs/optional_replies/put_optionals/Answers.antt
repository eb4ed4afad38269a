use Rattle.std.proofs.Common.{length}
use Rattle.cil_server.specs.Replies.{of_optional_line, ok_number}
use Rattle.cil_server.proofs.StreamLemmas.{items_all, items_next, items_none}
use Rattle.cil_server.proofs.optional_replies.put_optionals.Goals as goal

pub loop-line-init : goal.loop-line-init
loop-line-init g c =
    items_none of_optional_line (ok_number (length c.args.lines.now)) c.args.lines.now c.args.output.now c.put_ok_number.new.output c.put_ok_number.ensures

pub loop-line-preserved : goal.loop-line-preserved
loop-line-preserved g c =
    items_next of_optional_line (ok_number (length c.args.lines.now)) c.args.lines.now c.args.output.now c.loop-line.output c.put_optional_line.new.output c.loop-line.line-index c.line-item.result
    c.loop-line-test.true c.line-item.is c.loop-line.invariant c.put_optional_line.ensures

pub returns : goal.returns
returns g c =
    items_all of_optional_line (ok_number (length c.args.lines.now)) c.args.lines.now c.args.output.now c.loop-line.output
    c.loop-line.line-index c.loop-line-test.false c.loop-line.invariant

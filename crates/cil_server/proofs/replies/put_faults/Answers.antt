use Rattle.std.specs.Prelude.{codes}
use Rattle.cil_server.specs.Replies.{newline, spaced}
use Rattle.cil_server.proofs.StreamLemmas.{tells_four}
use Rattle.cil_server.proofs.replies.put_faults.Goals as goal

pub returns : goal.returns
returns g c =
    tells_four c.args.output.now c.put.new.self c.put_number.new.output c.put-2.new.self c.put-3.new.self (codes "FAULTS") (spaced c.args.count) newline c.args.lines.now c.put.ensures c.put_number.ensures c.put-2.ensures c.put-3.ensures

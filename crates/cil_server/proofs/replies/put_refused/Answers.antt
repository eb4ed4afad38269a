use Rattle.std.specs.Prelude.{codes}
use Rattle.cil_server.specs.Replies.{newline, spaced}
use Rattle.cil_server.proofs.StreamLemmas.{tells_three}
use Rattle.cil_server.proofs.replies.put_refused.Goals as goal

pub returns : goal.returns
returns g c =
    tells_three c.args.output.now c.put.new.self c.put_number.new.output c.put-2.new.self (codes "ERR") (spaced c.args.code) newline c.put.ensures c.put_number.ensures c.put-2.ensures

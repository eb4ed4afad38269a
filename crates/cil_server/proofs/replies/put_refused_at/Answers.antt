use Rattle.std.specs.Prelude.{codes}
use Rattle.cil_server.specs.Replies.{newline, spaced}
use Rattle.cil_server.proofs.StreamLemmas.{tells_four}
use Rattle.cil_server.proofs.replies.put_refused_at.Goals as goal

pub returns : goal.returns
returns g c =
    tells_four c.args.output.now c.put.new.self c.put_number.new.output c.put_number-2.new.output c.put-2.new.self (codes "ERR") (spaced c.args.code) (spaced c.args.at) newline
    c.put.ensures c.put_number.ensures c.put_number-2.ensures c.put-2.ensures

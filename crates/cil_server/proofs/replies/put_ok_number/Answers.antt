use Rattle.std.specs.Prelude.{codes}
use Rattle.cil_server.specs.Replies.{newline, spaced}
use Rattle.cil_server.proofs.StreamLemmas.{tells_three}
use Rattle.cil_server.proofs.replies.put_ok_number.Goals as goal

pub returns : goal.returns
returns g c =
    tells_three c.args.output.now c.put.new.self c.put_number.new.output c.put-2.new.self (codes "OK") (spaced c.args.number) newline c.put.ensures c.put_number.ensures c.put-2.ensures

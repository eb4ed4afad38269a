use Rattle.std.proofs.Common.{length}
use Rattle.cil_server.specs.Replies.{ok_number}
use Rattle.cil_server.proofs.StreamLemmas.{tells_both}
use Rattle.cil_server.proofs.replies.put_bundle.Goals as goal

pub returns : goal.returns
returns g c =
    tells_both c.args.output.now c.put_ok_number.new.output c.put.new.self (ok_number (length c.args.bytes.now)) c.args.bytes.now c.put_ok_number.ensures c.put.ensures

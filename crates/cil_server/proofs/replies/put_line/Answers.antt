use Rattle.hex.specs.Hex.{encode_lower}
use Rattle.cil_server.specs.Replies.{newline, spaced}
use Rattle.cil_server.proofs.StreamLemmas.{tells_three}
use Rattle.cil_server.proofs.replies.put_line.Goals as goal

pub returns : goal.returns
returns g c =
    tells_three c.args.output.now c.put_digest.new.output c.put_number.new.output c.put.new.self (encode_lower c.args.line.now.digest) (spaced c.args.line.now.length) newline
    c.put_digest.ensures c.put_number.ensures c.put.ensures

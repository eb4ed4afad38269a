use Rattle.std.specs.Prelude.{codes, ◌∷◌}
use Rattle.hex.specs.Hex.{encode_lower}
use Rattle.cil_server.specs.Replies.{newline, spaced}
use Rattle.cil_server.proofs.StreamLemmas.{tells_both, tells_four}
use Rattle.cil_server.proofs.replies.put_loaded.Goals as goal

pub returns : goal.returns
returns g c =
    let digits = encode_lower c.args.loaded.digest in
    let word = tells_both c.put_number.new.output c.put-2.new.self c.put_digest.new.output (codes " ") digits c.put-2.ensures c.put_digest.ensures in
    tells_four c.args.output.now c.put.new.self c.put_number.new.output c.put_digest.new.output c.put-3.new.self (codes "OK") (spaced c.args.loaded.length) (32 ∷ digits) newline
    c.put.ensures c.put_number.ensures word c.put-3.ensures

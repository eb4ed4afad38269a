use Rattle.std.specs.Prelude.{codes, decimal}
use Rattle.cil_server.proofs.StreamLemmas.{tells_both}
use Rattle.cil_server.proofs.replies.put_number.Goals as goal

pub returns : goal.returns
returns g c = tells_both c.args.output.now c.put.new.self c.put_decimal.new.output (codes " ") (decimal c.args.number) c.put.ensures c.put_decimal.ensures

use Rattle.std.specs.Prelude.{codes}
use Rattle.cil_server.proofs.StreamLemmas.{tells_both}
use Rattle.cil_server.proofs.optional_replies.put_word.Goals as goal

pub returns : goal.returns
returns g c = tells_both c.args.output.now c.put.new.self c.put-2.new.self (codes " ") c.args.word.now c.put.ensures c.put-2.ensures

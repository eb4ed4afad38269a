use Rattle.std.specs.Prelude.{codes}
use Rattle.cil_server.specs.Streams.{Tells}
use Rattle.cil_server.proofs.NameLemmas.{name_later}
use Rattle.cil_server.proofs.StreamLemmas.{tells_both}
use Rattle.cil_server.proofs.decision_replies.put_name.Goals as goal

pub returns-else-is_first : goal.returns-else-is_first
returns-else-is_first g c =
    name_later c.args.is_first (Tells c.args.output.now c.put-in-Some-2.new.self) c.args.name c.in-Some.name c.in-Some.is c.if-is_first.false
    (tells_both c.args.output.now c.put-in-Some.new.self c.put-in-Some-2.new.self (codes ",") c.in-Some.name.now c.put-in-Some.ensures c.put-in-Some-2.ensures)

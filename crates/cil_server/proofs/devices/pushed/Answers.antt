use Rattle.cil_server.proofs.OutputLemmas.{front_taken}
use Rattle.cil_server.proofs.devices.pushed.Goals as goal

pub returns-in-Err-clause-bytes : goal.returns-in-Err-clause-bytes
returns-in-Err-clause-bytes g c =
    front_taken (g.T.Write.contents c.args.writer.now) (g.T.Write.contents c.write.new.self) (g.T.Write.contents c.flush.new.self) c.args.bytes.now c.in_ok-count.count
    c.in_ok-count.ensures.bytes c.in-Err.ensures.bytes

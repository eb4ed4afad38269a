use Rattle.cil_server.specs.Replies.{of_optional, of_standing}
use Rattle.cil_server.proofs.StreamLemmas.{tells_both}
use Rattle.cil_server.proofs.optional_replies.put_optional_line.Goals as goal

pub returns : goal.returns
returns g c =
    let line = c.args.line.now in
    tells_both c.args.output.now c.put_optional.new.output c.put_standing.new.output (of_optional line.«module» line.at line.space line.label) (of_standing line.enabled)
    c.put_optional.ensures c.put_standing.ensures

use Rattle.std.proofs.Common.{◌∙◌, subst}
use Rattle.cil_server.specs.Streams.{Tells}
use Rattle.cil_server.proofs.replies.put_decimal.Goals as goal

pub returns : goal.returns
returns g c = subst (Tells c.args.output.now c.put.new.self) (c.as_bytes.ensures.value ∙ c.format.ensures.text) c.put.ensures

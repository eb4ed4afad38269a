use Rattle.cil_macros.proofs.ScopeEndLemmas.{scope_ends}
use Rattle.cil_macros.proofs.instances.Instances.are_closed.Goals as goal

pub returns : goal.returns
returns c = scope_ends c.args.self.now

use Rattle.cil_blocks.proofs.PlaceLemmas.{scope_filled}
use Rattle.cil_blocks.proofs.spaces.Spaces.scope_into.Goals as goal

pub returns : goal.returns
returns c = λ p e.
    scope_filled c.self.inside.located.namespaces c.self.inside.located.places c.args.rank p c.clear.new.self c.add_scope.new.scope c.close.new.self c.clear.ensures
    c.in_ok-add_scope.ensures c.in_ok-close.ensures (rw (← c.self.view_is) at e)

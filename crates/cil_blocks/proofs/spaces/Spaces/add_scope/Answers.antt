use Rattle.cil_blocks.proofs.PlaceLemmas.{scope_added}
use Rattle.cil_blocks.proofs.spaces.Spaces.add_scope.Goals as goal

pub returns : goal.returns
returns c = λ p e.
    scope_added c.self.inside.located.namespaces c.self.inside.located.places c.args.rank p c.args.scope.now c.add_scope.new.scope c.in_ok-add_scope.ensures (rw (← c.self.view_is) at e)

use Rattle.cil_blocks.proofs.OnceLemmas.{put_last}
use Rattle.cil_blocks.proofs.scopes.ScopeList.close.Goals as goal

pub returns : goal.returns
returns c = λ none.
    rw (← c.self.view_is) (put_last c.self.inside.numbers.keys c.insert.new.self.keys c.in_ok-insert.ensures.keys (rw (← c.self.view_is) at none))

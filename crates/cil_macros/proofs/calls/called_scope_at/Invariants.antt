use Rattle.cil_macros.proofs.ScopeLemmas.{IsLeft}
use Rattle.cil_macros.proofs.calls.called_scope_at.Given as goal

abbrev pub invariant-loop-body : goal.invariant-loop-body
invariant-loop-body l = IsLeft l.spaces l.brought.entries.items l.at l.place l.scope

abbrev pub decreases-loop-body : goal.decreases-loop-body
decreases-loop-body l = l.place

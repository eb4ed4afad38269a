use Rattle.cil_decide.proofs.ContextParts.{no_first, no_second}
use Rattle.cil_decide.proofs.context.opening_of.Goals as goal

pub returns-in_err-first : goal.returns-in_err-first
returns-in_err-first c = rw c.from_residual.ensures (no_first c.args.text.now c.in_err-first.ensures)

pub returns-in_err-second : goal.returns-in_err-second
returns-in_err-second c = rw c.from_residual-in_err-second.ensures (no_second c.args.text.now _ _ c.in_ok-first.ensures c.in_err-second.ensures)

pub returns : goal.returns
returns c = record { behind = _; of_first = c.in_ok-first.ensures; of_second = c.in_ok-second.ensures }

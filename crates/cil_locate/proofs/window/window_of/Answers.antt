use Rattle.std.proofs.Common.{arith, ap}
use Rattle.cil_locate.proofs.PositionLemmas.{start_before}
use Rattle.cil_locate.proofs.window.window_of.Goals as goal

pub overflow_sub-column : goal.overflow_sub-column
overflow_sub-column c = rw (ap (λ p. p.begin) c.requires.here) (start_before _ _)

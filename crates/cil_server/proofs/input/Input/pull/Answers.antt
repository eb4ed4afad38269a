use Rattle.std.proofs.Common.{arith}
use Rattle.cil_server.proofs.InputLemmas.{filled_none}
use Rattle.cil_server.proofs.input.Input.pull.Goals as goal

pub returns-then-count-eq0-clause-fills : goal.returns-then-count-eq0-clause-fills
returns-then-count-eq0-clause-fills g c =
    filled_none _ c.in_ok-count.count _ c.if-count-eq0.true
    (c.in_ok-count.ensures.bytes.1 c.if-count-eq0.true (omega (arith, c.self.invariant.2, c.as_mut_slice.ensures.len, c.pull.auto.buffer)))

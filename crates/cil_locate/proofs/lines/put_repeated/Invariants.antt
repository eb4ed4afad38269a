use Rattle.std.proofs.Common.{replicate}
use Rattle.cil_server.specs.Streams.{Tells}
use Rattle.cil_locate.proofs.lines.put_repeated.Given as goal

abbrev pub invariant-loop-turn : goal.invariant-loop-turn
invariant-loop-turn g l = Tells l.fn.output l.output (replicate l._turn l.byte)

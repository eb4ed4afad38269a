use Rattle.std.specs.Prelude.{None}
use Rattle.cil_server.specs.Streams.{unread}
use Rattle.cil_server.specs.Taken.{Moves}
use Rattle.cil_server.proofs.InputLemmas.{IsBodySoFar}
use Rattle.cil_server.proofs.streams.Streams.take_body.Given as goal

abbrev pub invariant-loop-left : goal.invariant-loop-left
invariant-loop-left g l = record {
  taken : IsBodySoFar (unread l.fn.self.input) (unread l.self.input) l.held l.count l.left;
  moves : Moves l.fn.self.input l.fn.self.output l.self.input l.self.output None;
}

abbrev pub decreases-loop-left : goal.decreases-loop-left
decreases-loop-left g l = l.left

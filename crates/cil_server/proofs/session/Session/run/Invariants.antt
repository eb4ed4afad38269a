use Rattle.std.specs.Prelude.{Some, false, length}
use Rattle.std.proofs.Common.{◌≡◌, ◌≤◌, List, ℕ, suc}
use Rattle.cil_server.specs.Asked.{longest_line}
use Rattle.cil_server.specs.Streams.{buffer_size, unread}
use Rattle.cil_server.specs.Turns.{Goes}
use Rattle.cil_server.proofs.SessionLemmas.{IsUpTo}
use Rattle.cil_server.proofs.session.Session.run.Given as goal

abbrev pub invariant-loop-count : goal.invariant-loop-count
invariant-loop-count g l = record {
  room : length l.self.line.items ≡ suc longest_line;
  sound : l.self.streams.output.has_failed ≡ false;
  goes : Goes l.fn.self.streams.input l.fn.self.streams.output l.self.streams.input l.self.streams.output 0;
  up_to : (bytes : List ℕ) → unread l.fn.self.streams.input ≡ Some bytes → length l.fn.self.streams.output.waiting ≤ buffer_size
      → IsUpTo bytes l._count (unread l.self.streams.input) l.fn.host l.host l.fn.self.streams.output l.self.streams.output;
}

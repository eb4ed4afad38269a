use Rattle.std.specs.Prelude.{None}
use Rattle.std.proofs.Common.{◌≡◌, length, take}
use Rattle.cil_server.specs.Streams.{unread}
use Rattle.cil_server.specs.Taken.{Moves, TakesPlain}
use Rattle.cil_server.proofs.streams.Streams.take_line.Given as goal

abbrev pub invariant-loop-filled : goal.invariant-loop-filled
invariant-loop-filled g l = record {
  len : length l.line.items ≡ length l.fn.line.items;
  taken : TakesPlain (unread l.fn.self.input) (unread l.self.input) (take l.filled l.line.items);
  moves : Moves l.fn.self.input l.fn.self.output l.self.input l.self.output None;
}

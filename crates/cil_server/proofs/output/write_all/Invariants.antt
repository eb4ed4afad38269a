use Rattle.std.proofs.Common.{◌≡◌, length, take, ◌-◌, ◌≤◌}
use Rattle.std.specs.Io.KnownBytes.{Appends}
use Rattle.cil_server.proofs.output.write_all.Given as goal

-- the first bytes are written
abbrev pub invariant-loop-written : goal.invariant-loop-written
invariant-loop-written g l = record {
  within : l.written ≤ length l.bytes;
  appends : Appends (g.W.Sink.contents l.fn.writer) (g.W.Sink.contents l.writer) (take l.written l.bytes);
  counts : g.W.Sink.failed l.writer ≡ g.W.Sink.failed l.fn.writer;
  idle : length l.bytes ≡ 0 → l.writer ≡ l.fn.writer;
}

abbrev pub decreases-loop-written : goal.decreases-loop-written
decreases-loop-written g l = length l.bytes - l.written

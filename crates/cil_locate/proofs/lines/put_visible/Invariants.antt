use Rattle.std.proofs.Common.{map, take}
use Rattle.cil_server.specs.Streams.{Tells}
use Rattle.cil_locate.specs.Lines.{visible}
use Rattle.cil_locate.proofs.lines.put_visible.Given as goal

abbrev pub invariant-loop-byte : goal.invariant-loop-byte
invariant-loop-byte g l = Tells l.fn.output l.output (map visible (take l.byte-index l.bytes))

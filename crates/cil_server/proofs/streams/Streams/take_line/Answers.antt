use Rattle.std.specs.Prelude.{None}
use Rattle.std.proofs.Common.{◌<◌, length, arith, rules}
use Rattle.cil_server.proofs.InputLemmas.{line_more, moves_both}
use Rattle.cil_server.proofs.streams.Streams.take_line.Goals as goal

pub loop-filled-preserved : goal.loop-filled-preserved
loop-filled-preserved g c =
    let l = c.loop-filled.invariant in
    let within : c.loop-filled.filled < length c.loop-filled.line.items = omega (arith, c.loop-filled-test.true, l.len, c.len-filled-end.ensures) in
    record {
      len = search (rules, l.len);
      taken = line_more _ _ _ c.loop-filled.line.items _ _ within l.taken c.in-Byte.byte-test.1 c.in-Byte.ensures.takes;
      moves = moves_both _ _ _ _ _ _ None l.moves c.in-Byte.ensures.moves;
    }

pub returns-in-Byte-eq10-clause-moves : goal.returns-in-Byte-eq10-clause-moves
returns-in-Byte-eq10-clause-moves g c = moves_both _ _ _ _ _ _ None c.loop-filled.invariant.moves c.in-Byte-eq10.ensures.moves

pub returns-in-End-clause-moves : goal.returns-in-End-clause-moves
returns-in-End-clause-moves g c = moves_both _ _ _ _ _ _ None c.loop-filled.invariant.moves c.in-End.ensures.moves

pub returns-in-End-2-clause-moves : goal.returns-in-End-2-clause-moves
returns-in-End-2-clause-moves g c = moves_both _ _ _ _ _ _ None c.loop-filled.invariant.moves c.in-End-2.ensures.moves

pub returns-in-Failed-clause-moves : goal.returns-in-Failed-clause-moves
returns-in-Failed-clause-moves g c = moves_both _ _ _ _ _ _ _ c.loop-filled.invariant.moves c.in-Failed.ensures.moves

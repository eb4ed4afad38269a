use Rattle.std.proofs.Common.{◌<◌, ◌≤◌, ◌-◌, ℕ, length, slice_index}
use Rattle.cil_sexpr.specs.Bytes.{IsWordByte}
use Rattle.cil_sexpr.proofs.bytes.word_end.Given as goal

abbrev pub invariant-loop-end : goal.invariant-loop-end
invariant-loop-end l =
    record {
      some : l.start < l.end;
      within : l.end ≤ length l.text;
      inside : (k : ℕ) → l.start ≤ k → k < l.end → IsWordByte (slice_index l.text k);
    }

abbrev pub decreases-loop-end : goal.decreases-loop-end
decreases-loop-end l = length l.text - l.end

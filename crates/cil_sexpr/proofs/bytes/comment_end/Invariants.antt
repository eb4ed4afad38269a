use Rattle.std.proofs.Common.{◌≢◌, ◌<◌, ℕ, slice_index}
use Rattle.cil_sexpr.specs.Bytes.{newline}
use Rattle.cil_sexpr.proofs.bytes.comment_end.Given as goal

abbrev pub invariant-loop-newline : goal.invariant-loop-newline
invariant-loop-newline l = (k : ℕ) → l.start < k → k < l.newline → slice_index l.text k ≢ newline

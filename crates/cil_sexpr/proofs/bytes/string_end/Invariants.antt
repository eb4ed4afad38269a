use Rattle.std.proofs.Common.{◌≢◌, ◌<◌, ℕ, slice_index}
use Rattle.cil_sexpr.specs.Bytes.{double_quote, newline}
use Rattle.cil_sexpr.proofs.bytes.string_end.Given as goal

abbrev pub invariant-loop-at : goal.invariant-loop-at
invariant-loop-at l =
    (k : ℕ) → l.start < k → k < l.at → (slice_index l.text k ≢ double_quote) × (slice_index l.text k ≢ newline)

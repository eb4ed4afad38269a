use Rattle.std.proofs.Common.{◌+◌, ◌≤◌, vec_len}
use Rattle.std.specs.Prelude.{reverse, vec_capacity}
use Rattle.cil_modset.specs.Modules.{texts_of}
use Rattle.cil_modset.proofs.GatherLemmas.{Gathered}
use Rattle.cil_modset.proofs.gather.gather.Given as goal

abbrev pub invariant-loop-text : goal.invariant-loop-text
invariant-loop-text l = record {
  gathered : Gathered (texts_of l.initial.low.items) (texts_of l.initial.high.items) (texts_of l.low.items) (texts_of l.high.items) (reverse (texts_of l.room.items));
  fits : vec_len l.low + vec_len l.high + vec_len l.room ≤ vec_capacity l.room;
}

abbrev pub decreases-loop-text : goal.decreases-loop-text
decreases-loop-text l = vec_len l.low + vec_len l.high

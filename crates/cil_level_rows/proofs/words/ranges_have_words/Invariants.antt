use Rattle.std.specs.Prelude.{All, take}
use Rattle.cil_level_rows.specs.KeptRanges.{AreRangeWords}
use Rattle.cil_level_rows.proofs.words.ranges_have_words.Given as goal

abbrev pub invariant-loop-range : goal.invariant-loop-range
invariant-loop-range l = All AreRangeWords (take l.range-index l.ranges)

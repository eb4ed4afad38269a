use Rattle.std.specs.Prelude.{take}
use Rattle.cil_level_rows.specs.Parts.{AreAllWords}
use Rattle.cil_level_rows.proofs.words.sets_have_words.Given as goal

abbrev pub invariant-loop-set : goal.invariant-loop-set
invariant-loop-set l = AreAllWords (take l.set-index l.sets)

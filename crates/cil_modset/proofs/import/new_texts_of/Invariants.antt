use Rattle.cil_modset.specs.Modules.{texts_of}
use Rattle.cil_modset.specs.NewTexts.{IsImportedUpTo}
use Rattle.cil_modset.proofs.import.new_texts_of.Given as goal

abbrev pub invariant-loop-index : goal.invariant-loop-index
invariant-loop-index l =
    IsImportedUpTo l.bytes l.ours (texts_of l.progress.walk.fresh.items) l.index l.progress.start l.progress.at l.progress.walk.passed

use Rattle.std.proofs.Common.{take}
use Rattle.cil_modset.specs.Modules.{texts_of}
use Rattle.cil_modset.specs.NewTexts.{AreNew, HasPassed}
use Rattle.cil_modset.proofs.set.missing_from.Given as goal

abbrev pub invariant-loop-i : goal.invariant-loop-i
invariant-loop-i l = record {
  passed : HasPassed l.ours (take l.i l.theirs) l.walk.passed;
  new : AreNew l.ours (take l.i l.theirs) (texts_of l.walk.fresh.items);
}

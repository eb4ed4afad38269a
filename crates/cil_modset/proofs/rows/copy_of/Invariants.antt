use Rattle.std.proofs.Common.{◌≡◌, take}
use Rattle.cil_modset.specs.Modules.{texts_of}
use Rattle.cil_modset.proofs.rows.copy_of.Given as goal

abbrev pub invariant-loop-text : goal.invariant-loop-text
invariant-loop-text l = texts_of l.copy.items ≡ take l.text-index (texts_of l.texts)

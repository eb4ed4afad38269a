use Rattle.std.specs.Prelude.{take}
use Rattle.cil_attrs.specs.Plain.{ArePlain}
use Rattle.cil_attrs.proofs.plain.all_plain.Given as goal

abbrev pub invariant-loop-given : goal.invariant-loop-given
invariant-loop-given l = ArePlain (take l.given-index l.givens)

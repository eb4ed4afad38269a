use Rattle.std.specs.Prelude.{◌≡◌, take}
use Rattle.cil_attrs.specs.Targets.{steps_in}
use Rattle.cil_attrs.proofs.targets.steps_in.Given as goal

abbrev pub invariant-loop-given : goal.invariant-loop-given
invariant-loop-given l = l.steps.items ≡ steps_in l.entries l.item l.alias (take l.given-index l.givens)

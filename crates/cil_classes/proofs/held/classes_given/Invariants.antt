use Rattle.std.specs.Prelude.{◌≡◌, Contains, take}
use Rattle.cil_classes.specs.declared.assigned.Given.{Given}
use Rattle.cil_classes.proofs.held.classes_given.Given as goal

abbrev pub invariant-loop-given : goal.invariant-loop-given
invariant-loop-given l = (g : Given) → Contains (take l.given-index l.givens) g → (g.part.mask ≡ 0 → ⊥) → Contains l.classes.items g.part.class

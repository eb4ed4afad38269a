use Rattle.std.specs.Prelude.{◌≡◌, Contains, map, take}
use Rattle.cil_classes.specs.declared.held.ClassMasks.{ClassMasks}
use Rattle.cil_classes.specs.Assigned.{AreMasks}
use Rattle.cil_classes.proofs.held.masks_of_each.Given as goal

abbrev pub invariant-loop-class : goal.invariant-loop-class
invariant-loop-class l =
    (map (λ (h : ClassMasks). h.class) l.held.items ≡ take l.class-index l.classes)
    × ((h : ClassMasks) → Contains l.held.items h → AreMasks l.givens h.class l.count h.masks.items)

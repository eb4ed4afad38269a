use Rattle.std.specs.Prelude.{◌≡◌, map, take}
use Rattle.cil_optionals.specs.Parts.{Part, parts_in}
use Rattle.cil_optionals.proofs.removal.optionals_of.Given as goal

abbrev pub invariant-loop-at : goal.invariant-loop-at
invariant-loop-at l = l.left.items ≡ map (λ (p : Part). p.optional) (take l.at (parts_in l.parts))

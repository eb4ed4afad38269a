use Rattle.std.specs.Prelude.{◌≡◌, cond, map, take}
use Rattle.cil_optionals.specs.Parts.{Part, parts_in}
use Rattle.cil_optionals.proofs.times.times_at_start.Given as goal

abbrev pub invariant-loop-at : goal.invariant-loop-at
invariant-loop-at l = l.times.items ≡ map (λ (p : Part). cond p.optional l.top 0) (take l.at (parts_in l.parts))

use Rattle.cil_optionals.specs.Parts.{parts_in}
use Rattle.cil_optionals.specs.Removals.{IsPassed, IsTaken}
use Rattle.cil_optionals.proofs.removal.pass.Given as goal

abbrev pub invariant-loop-at : goal.invariant-loop-at
invariant-loop-at l = IsTaken (parts_in l.parts) l.entries l.left.items l.reasons.items × IsPassed (parts_in l.parts) l.entries l.at l.fn.left.items l.left.items l.taken

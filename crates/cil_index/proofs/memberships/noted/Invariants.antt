use Rattle.cil_index.specs.Memberships.{AreNoted}
use Rattle.cil_index.proofs.memberships.noted.Given as goal

abbrev pub invariant-loop-place : goal.invariant-loop-place
invariant-loop-place l = AreNoted l.ones l.several l.place l.lists.items

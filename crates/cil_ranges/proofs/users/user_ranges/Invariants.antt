use Rattle.cil_macros.specs.Items.{items_in}
use Rattle.cil_ranges.proofs.UserLemmas.{AreGivenUpTo}
use Rattle.cil_ranges.proofs.users.user_ranges.Given as goal

abbrev pub invariant-loop-at : goal.invariant-loop-at
invariant-loop-at l = AreGivenUpTo l.known l.by (items_in l.instances) l.at l.all

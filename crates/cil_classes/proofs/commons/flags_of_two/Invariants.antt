use Rattle.std.specs.Prelude.{◌≡◌, length}
use Rattle.cil_classes.proofs.CommonLemmas.{AreFlagged}
use Rattle.cil_classes.proofs.commons.flags_of_two.Given as goal

abbrev pub invariant-loop-at : goal.invariant-loop-at
invariant-loop-at l = (length l.flags.items ≡ l.entries) × AreFlagged l.shared l.at l.flags.items

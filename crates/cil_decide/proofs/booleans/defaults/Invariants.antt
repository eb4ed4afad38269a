use Rattle.cil_decide.proofs.BooleanLemmas.{AreOnUpTo}
use Rattle.cil_decide.proofs.booleans.defaults.Given as goal

abbrev pub invariant-loop-place : goal.invariant-loop-place
invariant-loop-place l = AreOnUpTo l.booleans l.place l.settings

use Rattle.std.proofs.Common.{ℕ}
use Rattle.cil_macros.proofs.ArgumentLemmas.{IsLeft}
use Rattle.cil_macros.proofs.arguments.all_fit.Given as goal

abbrev pub invariant-loop-parameter : goal.invariant-loop-parameter
invariant-loop-parameter l = (n : ℕ) → IsLeft l.«module» n l.parameters l.arguments l.parameter-index l.taken

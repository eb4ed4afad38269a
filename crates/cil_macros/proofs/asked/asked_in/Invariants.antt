use Rattle.std.proofs.Common.{length}
use Rattle.cil_macros.proofs.AskedLemmas.{IsAskedUpTo}
use Rattle.cil_macros.proofs.asked.asked_in.Given as goal

abbrev pub invariant-loop-parts : goal.invariant-loop-parts
invariant-loop-parts l = IsAskedUpTo l.namespaces l.from l.names l.space l.rest

abbrev pub decreases-loop-parts : goal.decreases-loop-parts
decreases-loop-parts l = length l.rest

use Rattle.std.proofs.Common.{length}
use Rattle.cil_blocks.proofs.PathLemmas.{IsLed}
use Rattle.cil_blocks.proofs.targets.space_named.Given as goal

abbrev pub invariant-loop-parts : goal.invariant-loop-parts
invariant-loop-parts l = IsLed l.namespaces l.from l.path l.space l.rest

abbrev pub decreases-loop-parts : goal.decreases-loop-parts
decreases-loop-parts l = length l.rest

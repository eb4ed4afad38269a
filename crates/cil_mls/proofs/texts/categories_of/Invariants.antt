use Rattle.std.proofs.Common.{length}
use Rattle.cil_mls.specs.Names.{IsNamed}
use Rattle.cil_mls.specs.Reading.{IsLeft}
use Rattle.cil_mls.proofs.texts.categories_of.Given as goal

abbrev pub invariant-loop-parts : goal.invariant-loop-parts
invariant-loop-parts l = IsLeft (IsNamed l.names) l.items l.categories.words l.rest

abbrev pub decreases-loop-parts : goal.decreases-loop-parts
decreases-loop-parts l = length l.rest

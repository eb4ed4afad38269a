use Rattle.std.proofs.Common.{[]}
use Rattle.std.specs.Prelude.{map, take}
use Rattle.cil_index.specs.rules.Kept.{rule_named}
use Rattle.cil_neverallow.specs.Overlaps.{IsLeastFor, IsMet}
use Rattle.cil_neverallow.proofs.overlap.least_with.Given as goal

abbrev pub invariant-loop-other : goal.invariant-loop-other
invariant-loop-other l = IsLeastFor (IsMet (rule_named [] l.types l.rule) (map (rule_named [] l.types) (take l.other-index l.allowed))) l.best

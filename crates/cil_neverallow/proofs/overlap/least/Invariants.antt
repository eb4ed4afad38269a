use Rattle.std.proofs.Common.{[]}
use Rattle.std.specs.Prelude.{map, take}
use Rattle.cil_index.specs.rules.Kept.{rule_named}
use Rattle.cil_neverallow.specs.Overlaps.{IsLeastFor, IsOverlap}
use Rattle.cil_neverallow.proofs.overlap.least.Given as goal

abbrev pub invariant-loop-rule : goal.invariant-loop-rule
invariant-loop-rule l = IsLeastFor (IsOverlap (map (rule_named [] l.types) (take l.rule-index l.forbidden)) (map (rule_named [] l.types) l.allowed)) l.best

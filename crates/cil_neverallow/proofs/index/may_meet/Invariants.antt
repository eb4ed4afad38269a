use Rattle.std.proofs.Common.{[]}
use Rattle.std.specs.Prelude.{map, take}
use Rattle.cil_index.specs.rules.Kept.{rule_named}
use Rattle.cil_neverallow.specs.declared.overlap.Overlap.{Overlap}
use Rattle.cil_neverallow.specs.Overlaps.{IsOverlap}
use Rattle.cil_neverallow.proofs.index.may_meet.Given as goal

abbrev pub invariant-loop-rule : goal.invariant-loop-rule
invariant-loop-rule l = (o : Overlap) → IsOverlap (map (rule_named [] l.sets) (take l.rule-index l.rules)) l.index.allow o → ⊥

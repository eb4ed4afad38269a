use Rattle.std.proofs.Common.{[]}
use Rattle.std.proofs.lemmas.List.{get_or_default}
use Rattle.cil_index.specs.rules.Kept.{rule_named}
use Rattle.cil_neverallow.proofs.LeastLemmas.{met_more}
use Rattle.cil_neverallow.proofs.overlap.least_with.Goals as goal

pub loop-other-preserved : goal.loop-other-preserved
loop-other-preserved c =
    rw c.lesser-best.ensures
    (met_more (rule_named [] c.args.types.now) c.args.allowed.now c.loop-other.other-index _ c.loop-other-test.true (get_or_default _ _ _ _ c.loop-other-test.true)
    (rule_named [] c.args.types.now c.args.rule.now) c.loop-other.best c.least_of.result c.loop-other.invariant c.least_of.ensures)

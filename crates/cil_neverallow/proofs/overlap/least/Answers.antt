use Rattle.std.proofs.Common.{[]}
use Rattle.std.specs.Prelude.{map}
use Rattle.std.proofs.lemmas.List.{get_or_default}
use Rattle.cil_index.specs.rules.Kept.{rule_named}
use Rattle.cil_neverallow.proofs.LeastLemmas.{overlap_all, overlap_more}
use Rattle.cil_neverallow.proofs.overlap.least.Goals as goal

pub loop-rule-preserved : goal.loop-rule-preserved
loop-rule-preserved c =
    rw c.lesser-best.ensures
    (overlap_more (rule_named [] c.args.types.now) c.args.forbidden.now c.loop-rule.rule-index _ c.loop-rule-test.true (get_or_default _ _ _ _ c.loop-rule-test.true)
    (map (rule_named [] c.args.types.now) c.args.allowed.now) c.loop-rule.best c.least_with.result c.loop-rule.invariant c.least_with.ensures)

pub returns : goal.returns
returns c =
    overlap_all (rule_named [] c.args.types.now) c.args.forbidden.now c.loop-rule.rule-index c.loop-rule-test.false c.loop-rule.best (map (rule_named [] c.args.types.now) c.args.allowed.now) c.loop-rule.invariant

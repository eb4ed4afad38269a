use Rattle.std.proofs.Common.{[]}
use Rattle.std.proofs.lemmas.List.{get_or_default}
use Rattle.cil_index.specs.rules.Kept.{rule_named}
use Rattle.cil_neverallow.proofs.MeetLemmas.{none_at_all, none_first, none_more}
use Rattle.cil_neverallow.proofs.index.may_meet.Goals as goal

pub loop-rule-init : goal.loop-rule-init
loop-rule-init c = none_first c.args.index.now.allow

pub loop-rule-preserved : goal.loop-rule-preserved
loop-rule-preserved c =
    none_more (rule_named [] c.args.sets.now) c.args.rules.now c.args.index.now.allow c.loop-rule.rule-index _ c.loop-rule-test.true (get_or_default _ _ _ _ c.loop-rule-test.true) c.loop-rule.invariant
    (c.rule_may_meet.ensures c.if-rule_may_meet.false)

pub returns : goal.returns
returns c = λ no. none_at_all (rule_named [] c.args.sets.now) c.args.rules.now c.args.index.now.allow c.loop-rule.rule-index c.loop-rule-test.false c.loop-rule.invariant

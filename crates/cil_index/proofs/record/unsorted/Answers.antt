use Rattle.std.proofs.Common.{map}
use Rattle.cil_rules.specs.Kept.{rule_named}
use Rattle.cil_index.proofs.OrderLemmas.{named_all, named_more, no_record}
use Rattle.cil_index.proofs.record.unsorted.Goals as goal

pub loop-rule-init : goal.loop-rule-init
loop-rule-init c = λ distinct named size are. no_record c.args.branches.now distinct (map (rule_named c.args.branches.now named) c.args.rules.now) _ c.in_ok-records.ensures.items

pub loop-rule-preserved : goal.loop-rule-preserved
loop-rule-preserved c = λ distinct named size are.
    named_more c.args.branches.now distinct named c.args.numbers.now are c.args.rules.now c.loop-rule.rule-index _ c.record_of.result c.loop-rule.records.items _ c.loop-rule-test.true
    (c.record_of.ensures distinct named size are) c.in_ok-push.ensures.items (c.loop-rule.invariant distinct named size are)

pub returns : goal.returns
returns c = λ distinct named size are.
    named_all c.args.branches.now distinct named c.args.numbers.now are c.args.rules.now c.loop-rule.rule-index c.loop-rule.records.items c.loop-rule-test.false (c.loop-rule.invariant distinct named size are)

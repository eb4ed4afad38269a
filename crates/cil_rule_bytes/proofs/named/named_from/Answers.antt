use Rattle.std.proofs.Common.{◌∙◌, arith}
use Rattle.cil_rule_bytes.proofs.NamedLemmas.{branch_among, named_more}
use Rattle.cil_rule_bytes.proofs.named.named_from.Goals as goal

pub named_one-requires-clause-there : goal.named_one-requires-clause-there
named_one-requires-clause-there c = λ b e.
    c.requires.there b (branch_among c.args.rules.now c.loop-rule.rule-index c.rule-item.result b c.loop-rule-test.true c.rule-item.is e)

pub loop-rule-preserved : goal.loop-rule-preserved
loop-rule-preserved c = (
  omega (arith, c.loop-rule.invariant.0),
  named_more c.args.rows.now c.args.rules.now c.args.first c.loop-rule.rule-index c.rule-item.result c.loop-rule-test.true c.rule-item.is c.in_ok-at.at c.in_ok-named_one.field-0
      c.loop-rule.named.items c.push.new.self.items (c.in_ok-at.ensures ∙ c.loop-rule.invariant.0) c.in_ok-named_one.ensures c.in_ok-push.ensures.items c.loop-rule.invariant.1,
)

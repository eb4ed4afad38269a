use Rattle.std.proofs.lemmas.List.{get_or_default}
use Rattle.cil_neverallow.proofs.PermissionLemmas.{apart_all, apart_more, none_apart}
use Rattle.cil_neverallow.proofs.permissions.name_some.Goals as goal

pub loop-rule-init : goal.loop-rule-init
loop-rule-init c = none_apart c.args.masks.now

pub loop-rule-preserved : goal.loop-rule-preserved
loop-rule-preserved c =
    apart_more c.args.rules.now c.loop-rule.rule-index _ c.args.masks.now c.loop-rule-test.true (get_or_default _ _ _ _ c.loop-rule-test.true) c.loop-rule.invariant (c.names_one.ensures c.if-names_one.false)

pub returns : goal.returns
returns c = λ no. apart_all c.args.rules.now c.loop-rule.rule-index c.args.masks.now c.loop-rule-test.false c.loop-rule.invariant

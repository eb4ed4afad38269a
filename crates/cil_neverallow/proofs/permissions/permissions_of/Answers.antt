use Rattle.std.proofs.lemmas.List.{get_or_default}
use Rattle.cil_neverallow.proofs.PermissionLemmas.{in_all, in_more, none_in}
use Rattle.cil_neverallow.proofs.permissions.permissions_of.Goals as goal

pub loop-rule-init : goal.loop-rule-init
loop-rule-init c = none_in _

pub loop-rule-preserved : goal.loop-rule-preserved
loop-rule-preserved c =
    in_more c.args.rules.now c.loop-rule.rule-index _ c.loop-rule.masks.items c.join.new.masks.items c.loop-rule-test.true (get_or_default _ _ _ _ c.loop-rule-test.true) c.loop-rule.invariant c.join.ensures

pub returns : goal.returns
returns c = in_all c.args.rules.now c.loop-rule.rule-index c.loop-rule.masks.items c.loop-rule-test.false c.loop-rule.invariant

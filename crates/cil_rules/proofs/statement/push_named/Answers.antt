use Rattle.std.proofs.Common.{append-nil, refl, sym}
use Rattle.cil_base.specs.MadeLists.{all_mapped, one_mapped}
use Rattle.cil_rules.specs.Behind.{rule_with}
use Rattle.cil_rules.proofs.statement.push_named.Goals as goal

pub loop-one-init : goal.loop-one-init
loop-one-init c = sym (append-nil c.args.out.now.items)

pub loop-one-preserved : goal.loop-one-preserved
loop-one-preserved c =
    one_mapped (rule_with c.args.instance c.args.branch c.args.source c.args.target) _ _ _ _ c.args.out.now.items _ _ c.loop-one-test.true refl c.loop-one.invariant c.in_ok-push_one.ensures

pub returns : goal.returns
returns c = all_mapped (rule_with c.args.instance c.args.branch c.args.source c.args.target) _ _ c.args.out.now.items _ c.loop-one-test.false c.loop-one.invariant

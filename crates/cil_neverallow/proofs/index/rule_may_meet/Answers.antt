use Rattle.cil_index.specs.conditions.Bits.{is_on}
use Rattle.cil_index.specs.rules.Kept.{rule_named}
use Rattle.cil_neverallow.proofs.MeetLemmas.{meets_none}
use Rattle.cil_neverallow.proofs.index.rule_may_meet.Goals as goal
use Rattle.std.proofs.Common.{[]}

pub returns-then-covered-rule-eq0 : goal.returns-then-covered-rule-eq0
returns-then-covered-rule-eq0 c = λ no.
    meets_none (is_on c.all_off.result) (rule_named [] c.args.sets.now c.args.rule.now) c.args.index.now.allow c.requires c.in-Some.source c.in-Some-only_target.target c.allowed-covered.result c.in-Some.ensures
    c.in-Some-only_target.ensures c.allowed-covered.ensures c.if-covered-rule-eq0.true

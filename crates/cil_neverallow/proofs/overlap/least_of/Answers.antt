use Rattle.std.proofs.Common.{[]}
use Rattle.std.proofs.Common.{◌∙◌, sym}
use Rattle.cil_index.specs.rules.Kept.{rule_named}
use Rattle.cil_neverallow.proofs.EndLemmas.{least_shared, nothing_shared, positive, small}
use Rattle.cil_neverallow.proofs.overlap.least_of.Goals as goal

pub returns-then-shared-eq0 : goal.returns-then-shared-eq0
returns-then-shared-eq0 c = nothing_shared (rule_named [] c.args.types.now c.args.rule.now) (rule_named [] c.args.types.now c.args.other.now) (sym c.in_common-shared.ensures ∙ c.if-shared-eq0.true)

pub returns : goal.returns
returns c =
    least_shared (rule_named [] c.args.types.now c.args.rule.now) (rule_named [] c.args.types.now c.args.other.now) c.if-rule-other.false c.in_common-shared.result c.in_common-shared.ensures (positive _ c.if-shared-eq0.false)
    (small _ c.in_common-shared.type_inv) c.in_ok-ends.ends c.in_ok-ends.ensures

use Rattle.std.proofs.Common.{List, map, subst, sym, ◌∙◌}
use Rattle.std.specs.Prelude.{Contains}
use Rattle.std.proofs.lemmas.Result.{IfOk-weaker}
use Rattle.cil_base.specs.Lists.{Lists}
use Rattle.cil_rules.specs.conditions.Branch.{Branch}
use Rattle.cil_rules.specs.declared.rule.NamedRule.{NamedRule}
use Rattle.cil_rules.specs.Kept.{rule_named}
use Rattle.cil_rules.specs.Order.{rule_cmp}
use Rattle.cil_index.specs.declared.record.Record.{Record}
use Rattle.cil_index.specs.Kept.{rule_of}
use Rattle.cil_index.specs.Sets.{AreNumbered}
use Rattle.cil_index.proofs.indexed.index_rules.Goals as goal

pub returns-clause-index : goal.returns-clause-index
returns-clause-index c = c.index_records.ensures.index

pub returns-clause-rules : goal.returns-clause-rules
returns-clause-rules c = IfOk-weaker c.index_records.result _ _ (λ r back. λ named rising are.
    let sets = c.args.sets.now in
    subst (λ (rs : List Record). Lists rule_cmp (Contains (map (rule_named c.args.branches.now.items named) c.args.rules.now.items)) (map (rule_of c.args.branches.now.items sets) rs)) (sym (back ∙ c.as_slice-3.ensures.value))
    (subst (λ (bs : List Branch). Lists rule_cmp (Contains (map (rule_named bs named) c.args.rules.now.items)) (map (rule_of bs sets) c.in_ok-records.records.items)) c.as_slice-branches.ensures.value
    (subst (λ (rs : List NamedRule). Lists rule_cmp (Contains (map (rule_named c.as_slice-branches.result.now named) rs)) (map (rule_of c.as_slice-branches.result.now sets) c.in_ok-records.records.items)) c.as_slice-2.ensures.value
    (c.in_ok-records.ensures sets named rising (c.in_ok-itself.ensures ∙ c.count.ensures) (subst (AreNumbered sets named) (sym c.as_slice.ensures.value) are)))))
    c.index_records.ensures.records

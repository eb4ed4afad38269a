use Rattle.std.proofs.Common.{List, map, subst}
use Rattle.std.specs.Prelude.{Contains}
use Rattle.cil_base.specs.Lists.{Lists}
use Rattle.cil_neverallow.specs.conditions.Branch.{Branch}
use Rattle.cil_neverallow.specs.rules.Kept.{rule_named}
use Rattle.cil_neverallow.specs.rules.Order.{rule_cmp}
use Rattle.cil_neverallow.proofs.rules_lemmas.RuleLemmas.{rules_listed}
use Rattle.cil_tables.proofs.sections.rules_given.Goals as goal

pub returns : goal.returns
returns c = λ names known apart stand classes given.
    let named = c.in_ok-rules.ensures names known apart stand classes given (c.in_ok-branches.ensures names known) in
    let types = c.args.types.now in
    let sections = c.in_ok-sections.sections in
    record {
      allow = rules_listed _ _ _ _ _ _ _ named.allow sections.allow
          (subst (λ (bs : List Branch). Lists rule_cmp (Contains (map (rule_named bs types) c.in_ok-rules.rules.allow.items)) sections.allow) c.into_rows-rows.ensures.rows c.in_ok-sections.ensures.allow);
      auditallow = rules_listed _ _ _ _ _ _ _ named.auditallow sections.auditallow
          (subst (λ (bs : List Branch). Lists rule_cmp (Contains (map (rule_named bs types) c.in_ok-rules.rules.auditallow.items)) sections.auditallow) c.into_rows-rows.ensures.rows c.in_ok-sections.ensures.auditallow);
      dontaudit = rules_listed _ _ _ _ _ _ _ named.dontaudit sections.dontaudit
          (subst (λ (bs : List Branch). Lists rule_cmp (Contains (map (rule_named bs types) c.in_ok-rules.rules.dontaudit.items)) sections.dontaudit) c.into_rows-rows.ensures.rows c.in_ok-sections.ensures.dontaudit);
    }

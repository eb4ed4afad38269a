use Rattle.std.proofs.Common.{[], ◌∷◌, ◌++◌, ◌∙◌, ap, ℕ}
use Rattle.cil_rules.specs.declared.rule.NamedRule.{NamedRule}
use Rattle.cil_rules.proofs.statement.push_one.Goals as goal

pub returns : goal.returns
returns c = c.in_ok-push.ensures.items ∙ ap (λ (n : ℕ). c.args.out.now.items ++ numbered n ∷ []) c.in_ok-class.ensures
  where
    numbered : ℕ → NamedRule
    numbered n = record { instance = c.args.instance; branch = c.args.branch; source = c.args.source; target = c.args.target; class = n; mask = c.args.one.now.1 }

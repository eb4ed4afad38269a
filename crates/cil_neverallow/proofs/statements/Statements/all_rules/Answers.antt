use Rattle.std.proofs.Common.{subst, sym}
use Rattle.std.specs.Prelude.{Contains}
use Rattle.cil_neverallow.proofs.StatementLemmas.{rule_in}
use Rattle.cil_neverallow.proofs.statements.Statements.all_rules.Goals as goal

pub returns : goal.returns
returns c = λ st r among has.
    subst (λ l. Contains l r) (sym c.as_slice.ensures.value) (rule_in c.self.inside.rules.items c.self.inside.runs.items st r (subst (λ l. Contains l st) (sym c.self.view_is) among) has)

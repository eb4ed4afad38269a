use Rattle.std.proofs.Common.{subst, ◌∙◌}
use Rattle.cil_rule_bytes.specs.Handed.{AreAllNamed}
use Rattle.cil_rule_bytes.specs.Sections.{sections_read}
use Rattle.cil_rule_bytes.proofs.SectionLemmas.{then_same}
use Rattle.cil_rule_bytes.proofs.sections.decided_by.Goals as goal

pub returns : goal.returns
returns c =
    let s = sections_read c.args.read.now in
    then_same c.in_ok-branches.branches.items c.deref-2.result.now s c.in_ok-rules.rules c.of.result c.requires
    (subst (λ rows. AreAllNamed rows s c.in_ok-rules.rules) c.deref.ensures.value c.in_ok-rules.ensures) (c.deref-2.ensures.value ∙ c.in_ok-sets.ensures) c.of.ensures.allow
    c.of.ensures.auditallow c.of.ensures.dontaudit

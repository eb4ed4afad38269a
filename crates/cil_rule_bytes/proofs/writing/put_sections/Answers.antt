use Rattle.cil_rule_bytes.proofs.WriteLemmas.{sections_put}
use Rattle.cil_rule_bytes.proofs.writing.put_sections.Goals as goal

pub returns : goal.returns
returns g c = λ limits before h.
    sections_put g.O.Out.holds limits c.args.sections.now c.allow-allow.result c.auditallow-auditallow.result c.dontaudit-dontaudit.result c.put_rules-3.result c.put_rules-3.new.out before
    c.allow-allow.ensures c.auditallow-auditallow.ensures c.dontaudit-dontaudit.ensures
    (c.put_rules-3.ensures limits _ (c.in_ok-put_rules-2.ensures limits _ (c.in_ok-put_rules.ensures limits before h)))

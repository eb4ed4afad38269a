use Rattle.cil_index.proofs.section.Sections.of.Goals as goal

pub returns-clause-allow : goal.returns-clause-allow
returns-clause-allow c = c.in_ok-allow.ensures.rules c.args.named.now c.in_ok-sets.ensures.rising c.in_ok-numbers.ensures

pub returns-clause-auditallow : goal.returns-clause-auditallow
returns-clause-auditallow c = c.in_ok-auditallow.ensures.rules c.args.named.now c.in_ok-sets.ensures.rising c.in_ok-numbers.ensures

pub returns-clause-dontaudit : goal.returns-clause-dontaudit
returns-clause-dontaudit c = c.in_ok-dontaudit.ensures.rules c.args.named.now c.in_ok-sets.ensures.rising c.in_ok-numbers.ensures

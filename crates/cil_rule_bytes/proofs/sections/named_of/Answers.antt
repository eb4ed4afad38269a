use Rattle.std.specs.Prelude.{Contains}
use Rattle.std.specs.List.{flat_map}
use Rattle.std.proofs.Common.{subst, ap, ◌+◌, ◌*◌, ◌∙◌}
use Rattle.cil_rule_bytes.specs.Handed.{AreNamed, branches_in}
use Rattle.cil_rule_bytes.specs.Sections.{sections_read}
use Rattle.cil_rule_bytes.proofs.SectionLemmas.{all_named, in_allow, in_auditallow, in_dontaudit}
use Rattle.cil_rule_bytes.proofs.sections.named_of.Goals as goal

pub named_from-requires-clause-there : goal.named_from-requires-clause-there
named_from-requires-clause-there c = λ b has.
    (c.requires.members b).1 (in_allow (sections_read c.args.read.now) b (subst (λ rs. Contains (flat_map branches_in rs) b) c.deref.ensures.value has))

pub named_from-requires-2-clause-there : goal.named_from-requires-2-clause-there
named_from-requires-2-clause-there c = λ b has.
    (c.requires.members b).1 (in_auditallow (sections_read c.args.read.now) b (subst (λ rs. Contains (flat_map branches_in rs) b) c.deref-2.ensures.value has))

pub named_from-requires-3-clause-there : goal.named_from-requires-3-clause-there
named_from-requires-3-clause-there c = λ b has.
    (c.requires.members b).1 (in_dontaudit (sections_read c.args.read.now) b (subst (λ rs. Contains (flat_map branches_in rs) b) c.deref-3.ensures.value has))

pub returns : goal.returns
returns c =
    let s = sections_read c.args.read.now in
    let rows = c.args.rows.now in
    let second = c.in_ok-second.field-0 * 2 in
    let third = second + c.in_ok-third.field-0 * 2 in
    all_named rows s second third record { allow = c.in_ok-allow.allow; auditallow = c.in_ok-auditallow.auditallow; dontaudit = c.in_ok-dontaudit.dontaudit }
    (ap (λ n. n * 2) (c.in_ok-second.ensures ∙ c.len.ensures ∙ c.args.read.now.allow.ok.0)) (ap (λ n. second + n * 2) (c.in_ok-third.ensures ∙ c.len-2.ensures ∙ c.args.read.now.auditallow.ok.0))
    (subst (λ rs. AreNamed rows rs 0 rs c.in_ok-allow.allow.items) c.deref.ensures.value c.in_ok-allow.ensures)
    (subst (λ rs. AreNamed rows rs second rs c.in_ok-auditallow.auditallow.items) c.deref-2.ensures.value c.in_ok-auditallow.ensures)
    (subst (λ rs. AreNamed rows rs third rs c.in_ok-dontaudit.dontaudit.items) c.deref-3.ensures.value c.in_ok-dontaudit.ensures)

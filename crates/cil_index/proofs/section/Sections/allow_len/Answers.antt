use Rattle.std.proofs.Common.{ap, length, ◌∙◌}
use Rattle.cil_index.specs.Kept.{rule_of}
use Rattle.cil_index.specs.Sections.{RuleSections}
use Rattle.cil_index.proofs.LayoutLemmas.{order_long}
use Rattle.cil_index.proofs.section.Sections.allow_len.Goals as goal

pub returns : goal.returns
returns c =
    let inside = c.self.inside in
    c.len.ensures ∙ inside.allow.order.ok.0 ∙ order_long (rule_of inside.branches.items inside.sets) inside.allow.records.items inside.allow.order.items ∙ ap (λ (s : RuleSections). length s.allow) c.self.view_is

use Rattle.std.proofs.Common.{rules, ◌∙◌}
use Rattle.cil_names.proofs.MeaningLemmas.{nothing_kept, some_kept}
use Rattle.cil_names.proofs.meaning.Meaning.entry.Goals as goal

pub returns-then-self-eq0 : goal.returns-then-self-eq0
returns-then-self-eq0 c = nothing_kept c.self.inside.next (search rules) ∙ c.self.view_is

pub returns-else-self-eq0 : goal.returns-else-self-eq0
returns-else-self-eq0 c = some_kept c.self.inside.next (λ e. search (rules, e)) ∙ c.self.view_is

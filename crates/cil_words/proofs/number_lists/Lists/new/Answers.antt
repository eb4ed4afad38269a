use Rattle.std.proofs.Common.{ap, ◌∙◌}
use Rattle.cil_names.specs.Rows.{lists_at}
use Rattle.cil_names.proofs.RowLemmas.{no_lists}
use Rattle.cil_words.proofs.number_lists.Lists.new.Goals as goal

pub returns : goal.returns
returns c = ap (λ starts. lists_at starts c.new-2.result.items) c.new.ensures.items ∙ no_lists c.new-2.result.items

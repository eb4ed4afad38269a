use Rattle.std.proofs.Common.{◌∙◌}
use Rattle.cil_levels.proofs.PermitLemmas.{begins_said}
use Rattle.cil_levels.proofs.permits.begins_with_word.Goals as goal

pub returns-in-len1-up : goal.returns-in-len1-up
returns-in-len1-up c = λ m. c.is_word.ensures m ∙ begins_said c.args.terms.now c.first-item.result c.in-len1-up.len_at_least c.first-item.is m

use Rattle.std.proofs.Common.{sym, ◌∙◌}
use Rattle.std.proofs.lemmas.Bool.{true≢false}
use Rattle.cil_ranges.proofs.ReadLemmas.{match_as, none_written, not_written, says_written}
use Rattle.cil_ranges.proofs.level.form_level.Goals as goal

pub returns-then-not-is_level : goal.returns-then-not-is_level
returns-then-not-is_level c = λ k g m f us more measures read at. not_written k g c.args.op us (λ e. true≢false (sym (c.is_level.ensures.1 e) ∙ c.if-not-is_level.true)) at

pub returns : goal.returns
returns c = λ k g m f us more measures read.
    match_as c.said_level.result (none_written k g c.args.op us) (says_written k g c.args.op us (c.is_level.ensures.0 c.if-not-is_level.false)) (c.said_level.ensures k g m f us more measures read)

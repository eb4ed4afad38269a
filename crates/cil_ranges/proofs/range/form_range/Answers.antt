use Rattle.std.proofs.Common.{sym, ◌∙◌}
use Rattle.std.proofs.lemmas.Bool.{true≢false}
use Rattle.cil_ranges.proofs.ReadLemmas.{match_as, not_written_range, says_written_range, written_range_says}
use Rattle.cil_ranges.proofs.range.form_range.Goals as goal

pub returns-then-not-is_range : goal.returns-then-not-is_range
returns-then-not-is_range c = λ k g m f us more measures levels read at. not_written_range k g c.args.op us (λ e. true≢false (sym (c.is_range.ensures.1 e) ∙ c.if-not-is_range.true)) at

pub returns : goal.returns
returns c = λ k g m f us more measures levels read.
    match_as c.said_range.result (λ none at r h. none r (written_range_says k g c.args.op us at r h)) (says_written_range k g c.args.op us (c.is_range.ensures.0 c.if-not-is_range.false))
    (c.said_range.ensures k g m f us more measures levels read)

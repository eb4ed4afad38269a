use Rattle.std.proofs.Common.{sym, ◌∙◌, ap}
use Rattle.cil_ranges.specs.Reading.{meant}
use Rattle.cil_ranges.proofs.ReadLemmas.{front, level_said, no_level_said, no_sensitivity}
use Rattle.cil_ranges.proofs.level.said_level.Goals as goal

pub returns-in_err-behind : goal.returns-in_err-behind
returns-in_err-behind c = λ k g m f us more measures read.
    rw c.from_residual.ensures (no_level_said k c.args.by.now g measures us c.args.words.now more read.row (c.in_err-behind.ensures f m us read.alike))

pub returns-in_err-sensitivity : goal.returns-in_err-sensitivity
returns-in_err-sensitivity c = λ k g m f us more measures read.
    let b = c.in_ok-behind.ensures f m us read.alike in
    rw c.from_residual-in_err-sensitivity.ensures (no_sensitivity k c.args.by.now g measures us c.args.words.now more read.row b.word b.rest b.says
    (sym (c.in_err-sensitivity.ensures ∙ ap (meant c.args.by.now.sensitivities.now) c.meaning_at.ensures)))

pub returns : goal.returns
returns c = λ k g m f us more measures read.
    let b = c.in_ok-behind.ensures f m us read.alike in
    level_said k c.args.by.now g measures us c.args.words.now more read.row b.word b.rest b.says (record { sensitivity = c.in_ok-sensitivity.sensitivity; categories = c.first_value-categories.result })
    (sym (c.in_ok-sensitivity.ensures ∙ ap (meant c.args.by.now.sensitivities.now) c.meaning_at.ensures))
    (λ n l. c.first_value-categories.ensures k g m f b.rest more measures
    (record { alike = b.alike; row = c.behind_first.ensures ∙ (front k c.args.by.now g measures us c.args.words.now more read.row b.word b.rest b.says).1 }) n l)

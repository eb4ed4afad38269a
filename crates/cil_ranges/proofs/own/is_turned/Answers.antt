use Rattle.std.proofs.Common.{sym, ◌∙◌}
use Rattle.std.proofs.lemmas.Bool.{true≢false}
use Rattle.cil_ranges.proofs.OwnLemmas.{match_not, not_turned}
use Rattle.cil_ranges.proofs.own.is_turned.Goals as goal

pub returns-in_default : goal.returns-in_default
returns-in_default c = λ k g m f us more measures levels read h. c.in_default.ensures k g m f us more measures levels read h.range h.says

pub returns : goal.returns
returns c = λ k g m f us more measures levels read.
    let r = c.in-Some.range in
    let says = c.in-Some.ensures k g m f us more measures levels read in
    match_not c.dominates.result (λ e. record { range = r; says = says; falls = λ d. true≢false (sym (c.dominates.ensures.1 d) ∙ e) })
    (λ e. not_turned k c.args.by.now.scale g measures c.args.by.now.levels.now levels us r says (c.dominates.ensures.0 e))

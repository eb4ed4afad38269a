use Rattle.std.proofs.Common.{sym, ◌∙◌}
use Rattle.cil_optionals.specs.Parts.{parts_in}
use Rattle.cil_optionals.proofs.FirstPartLemmas.{none_told, word_told}
use Rattle.cil_optionals.proofs.first.first_reason.Goals as goal

pub returns-in-Some : goal.returns-in-Some
returns-in-Some c =
    let check = c.args.check.now in
    word_told (parts_in check.parts.now) check.times.now check.entries.now c.args.steps c.args.step c.left_out-optional.result c.args.reason.now c.in-Some.word c.args.words.now
    c.left_out-optional.ensures c.requires (sym c.parent_is_out.ensures ∙ c.if-parent_is_out.false) (sym c.noted.ensures ∙ c.in-Some.is)

pub returns-in-None : goal.returns-in-None
returns-in-None c =
    let check = c.args.check.now in
    none_told (parts_in check.parts.now) check.times.now check.entries.now c.args.steps c.args.step c.left_out-optional.result c.args.reason.now c.args.words.now
    c.left_out-optional.ensures c.requires (sym c.parent_is_out.ensures ∙ c.if-parent_is_out.false) (sym c.noted.ensures ∙ c.in-None.is)

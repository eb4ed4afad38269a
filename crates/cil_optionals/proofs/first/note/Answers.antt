use Rattle.std.proofs.Common.{sym, ◌∙◌}
use Rattle.cil_optionals.specs.declared.reason.Reason.TheVariants.{Missing}
use Rattle.cil_optionals.specs.Parts.{parts_in}
use Rattle.cil_optionals.proofs.FirstPartLemmas.{goes_within, no_optional, no_step, no_word, word_noted}
use Rattle.cil_optionals.proofs.first.note.Goals as goal

pub returns-in_default-clause-noted : goal.returns-in_default-clause-noted
returns-in_default-clause-noted c =
    let check = c.args.check.now in
    no_optional (parts_in check.parts.now) check.times.now check.entries.now c.args.steps c.args.at c.args.words.now.items (sym c.inside.ensures ∙ c.in_default.is)

pub returns-in_default-step_of-clause-noted : goal.returns-in_default-step_of-clause-noted
returns-in_default-step_of-clause-noted c =
    let check = c.args.check.now in
    no_step (parts_in check.parts.now) check.times.now check.entries.now c.args.steps c.args.at c.in-Some.optional c.args.words.now.items (sym c.inside.ensures ∙ c.in-Some.is)
    c.in_default-step_of.ensures

pub returns-in_default-first_lacking-clause-noted : goal.returns-in_default-first_lacking-clause-noted
returns-in_default-first_lacking-clause-noted c =
    let check = c.args.check.now in
    no_word (parts_in check.parts.now) check.times.now check.entries.now c.args.steps c.args.at c.in-Some.optional c.in-Some-step_of.step c.args.words.now.items
    (sym c.inside.ensures ∙ c.in-Some.is) c.in-Some-step_of.ensures c.in_default-first_lacking.ensures

pub returns-clause-noted : goal.returns-clause-noted
returns-clause-noted c =
    let check = c.args.check.now in
    let words = c.args.words.now.items in
    word_noted (parts_in check.parts.now) check.times.now check.entries.now c.args.steps c.args.at c.in-Some.optional c.in-Some-step_of.step c.in-Some-first_lacking.word _ words
    (sym c.inside.ensures ∙ c.in-Some.is) c.in-Some-step_of.ensures c.in-Some-first_lacking.ensures
    (λ i. Missing (c.in_ok-short.ensures i) (c.in_ok-short-2.ensures i) (c.in_ok-short-3.ensures i))
    (goes_within (parts_in check.parts.now) check.times.now check.entries.now c.args.steps c.in-Some.optional c.in-Some-step_of.step words c.in-Some-step_of.ensures c.requires)

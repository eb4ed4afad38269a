use Rattle.std.proofs.Common.{◌∙◌, ap, sym}
use Rattle.cil_syntax.specs.Said.{all_said, args_of}
use Rattle.cil_syntax.specs.Written as written
use Rattle.cil_blocks.proofs.DoubledLemmas.{if_ok}
use Rattle.cil_macros.specs.Calls.{is_call}
use Rattle.cil_macros.proofs.ListMarkLemmas.{known_at, wrong_call, wrong_nowhere, wrong_statement}
use Rattle.cil_macros.proofs.list_places.is_wrong_at.Goals as goal

pub returns-in_default : goal.returns-in_default
returns-in_default c = λ p here. wrong_nowhere c.args.scene.now c.args.openings.now c.requires.opened c.args.at p here c.requires.within (c.in_default.ensures p here)

pub returns-then-is_call : goal.returns-then-is_call
returns-then-is_call c =
    let x = c.in-Some.statement.now in
    if_ok _ _ c.has_wrong_argument.result
    (λ wrong says p here.
    let so = c.in-Some.ensures p here in
    let same = sym (ap (λ (y : written.Statement). y.args) so) in
    wrong_call c.args.scene.now c.args.openings.now c.requires.opened c.args.at p here c.requires.within
    (ap (λ (y : written.Statement). is_call y.keyword) so ∙ sym c.is_call.ensures ∙ c.if-is_call.true)
    (args_of x) same wrong (says p here same))
    c.has_wrong_argument.ensures

pub has_wrong_word-requires : goal.has_wrong_word-requires
has_wrong_word-requires c = known_at c.args.scene.now c.args.openings.now c.requires.opened c.args.at c.requires.within

pub returns : goal.returns
returns c =
    let x = c.in-Some.statement.now in
    if_ok _ _ c.has_wrong_word.result
    (λ wrong says p here.
    let so = c.in-Some.ensures p here in
    wrong_statement c.args.scene.now c.args.openings.now c.requires.opened c.args.at p here c.requires.within
    (ap (λ (y : written.Statement). is_call y.keyword) so ∙ sym c.is_call.ensures ∙ c.if-is_call.false)
    (all_said x.at.«module» c.as_slice.result.now) (ap (all_said x.at.«module») c.as_slice.ensures.value ∙ sym (ap (λ (y : written.Statement). y.args) so)) wrong (says p here))
    c.has_wrong_word.ensures

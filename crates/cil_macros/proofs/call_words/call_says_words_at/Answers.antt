use Rattle.std.proofs.Common.{◌∙◌, ap, arith, length, subst}
use Rattle.cil_base.specs.Places.{there_as}
use Rattle.cil_macros.specs.declared.openings.Opening.{Opening}
use Rattle.cil_macros.specs.Walks.{HasNoBody, IsBodyOf}
use Rattle.cil_macros.proofs.CallWordLemmas.{says_no_argument, says_word_arguments}
use Rattle.cil_macros.proofs.WordValues.{not_true}
use Rattle.cil_macros.proofs.call_words.call_says_words_at.Goals as goal

pub returns-in-None : goal.returns-in-None
returns-in-None c = λ yes p here.
    says_no_argument c.args.scene.now c.args.openings.now c.requires.opened c.args.at p here c.requires.within
    (subst (λ xs. HasNoBody xs c.args.at) c.as_slice-bodies.ensures.value c.in-None.ensures.body)

pub returns-in-Some : goal.returns-in-Some
returns-in-Some c = λ yes p here.
    let s = c.args.scene.now in
    let x = subst (λ xs. IsBodyOf xs c.args.at c.in-Some.number) c.as_slice-bodies.ensures.value c.in-Some.ensures.body in
    let within = c.in-Some.ensures.within in
    let l = ap length c.as_slice-bodies.ensures.value in
    let many = c.requires.opened.many in
    let o = there_as c.args.openings.now c.in-Some.number c.index-openings-number.result (omega (arith, within, l, many)) c.index-openings-number.is in
    says_word_arguments s c.args.openings.now c.requires.opened c.args.at p here c.requires.within c.in-Some.number x c.index-openings-number.result o
    (ap (λ (y : Opening). y.lists) c.index-openings-number.is ∙ not_true _ yes)

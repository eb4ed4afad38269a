use Rattle.std.proofs.Common.{◌∙◌, ap, arith, length, subst, sym}
use Rattle.cil_base.specs.Places.{there_as}
use Rattle.cil_macros.specs.declared.openings.Opening.{Opening}
use Rattle.cil_macros.specs.Unfoldings.{IsUnfolding}
use Rattle.cil_macros.specs.Walks.{HasNoBody}
use Rattle.cil_macros.proofs.CallWordLemmas.{body_as, macro_missing, not_opened, unfolding_there}
use Rattle.cil_macros.proofs.call_words.unfolding_at.Goals as goal

pub returns-in_default : goal.returns-in_default
returns-in_default c = λ p here.
    not_opened c.args.scene.now c.args.openings.now c.requires.opened c.args.at p here c.requires.within
    (subst (λ xs. HasNoBody xs c.args.at) c.as_slice-bodies.ensures.value c.in_default.ensures.body)

pub index-requires : goal.index-requires
index-requires c =
    let within = c.in-Some.ensures.within in
    let l = ap length c.as_slice-bodies.ensures.value in
    let n = c.args.scene.now.brought.now.bodies.ok.0 in
    omega (arith, within, l, n)

pub returns-in_default-standing_at : goal.returns-in_default-standing_at
returns-in_default-standing_at c = λ p here.
    let s = c.args.scene.now in
    let x = body_as s.brought.now.bodies.items c.as_slice-bodies.result.now c.as_slice-bodies.ensures.value c.args.at c.in-Some.number c.in-Some.ensures.body
    c.index.result.now c.index.ensures in
    absurd (macro_missing s c.args.openings.now c.requires.opened c.args.at p here c.requires.within c.in-Some.number x c.in_default-standing_at.ensures)

pub returns : goal.returns
returns c = λ p here.
    let s = c.args.scene.now in
    let x = body_as s.brought.now.bodies.items c.as_slice-bodies.result.now c.as_slice-bodies.ensures.value c.args.at c.in-Some.number c.in-Some.ensures.body
    c.index.result.now c.index.ensures in
    let within = c.in-Some.ensures.within in
    let l = ap length c.as_slice-bodies.ensures.value in
    let many = c.requires.opened.many in
    let o = there_as c.args.openings.now c.in-Some.number c.index-openings-number.result (omega (arith, within, l, many)) c.index-openings-number.is in
    subst (IsUnfolding s p c.in-Some-standing_at.called.now) (ap (λ (y : Opening). y.arguments.items) c.index-openings-number.is ∙ sym c.as_slice.ensures.value)
    (unfolding_there s c.args.openings.now c.requires.opened c.args.at p here c.requires.within c.in-Some.number x c.in-Some-standing_at.called.now c.in-Some-standing_at.ensures
    c.index-openings-number.result o)

use Rattle.std.proofs.Common.{◌∙◌, ap, arith, length, subst}
use Rattle.cil_base.specs.Places.{there_as}
use Rattle.cil_macros.specs.declared.openings.Opening.{Opening}
use Rattle.cil_macros.specs.Openings.{IsNumbered}
use Rattle.cil_macros.proofs.BodyMeaning.{numbered_body, says_words_in_body, says_words_standing}
use Rattle.cil_macros.proofs.WordValues.{not_true}
use Rattle.cil_macros.proofs.meaning.says_words_at.Goals as goal

pub returns-in-None : goal.returns-in-None
returns-in-None c = λ yes p w here.
    let l = ap length c.entries-standing.ensures.same in
    let below = c.in-None.ensures in
    says_words_standing c.args.scene.now c.args.openings.now c.args.at c.requires p here (omega (arith, l, below)) w

pub returns-in-Some : goal.returns-in-Some
returns-in-Some c = λ yes p w here.
    let s = c.args.scene.now in
    let n = subst (λ k. IsNumbered s.brought.now.entries.items k c.args.at c.in-Some.number) (ap length c.entries-standing.ensures.same) c.in-Some.ensures in
    let first = c.requires.first n.rank n.called n.behind n.is in
    let same = n.body in
    let o = there_as c.args.openings.now c.in-Some.number c.index-openings-number.result (omega (arith, first, same)) c.index-openings-number.is in
    says_words_in_body s c.args.openings.now c.args.at c.requires p here c.in-Some.number n _
    (numbered_body s c.args.openings.now c.args.at c.requires p here c.in-Some.number n) c.index-openings-number.result o
    (ap (λ (x : Opening). x.lists) c.index-openings-number.is ∙ not_true _ yes) w

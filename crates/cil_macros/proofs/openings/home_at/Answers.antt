use Rattle.std.proofs.Common.{◌∙◌, ap, arith, length, subst, sym}
use Rattle.std.specs.Prelude.{slice_get}
use Rattle.cil_base.specs.Places.{there_as}
use Rattle.cil_macros.specs.declared.openings.Opening.{Opening}
use Rattle.cil_macros.specs.Meant.{scope_there}
use Rattle.cil_macros.specs.Openings.{IsNumbered}
use Rattle.cil_macros.specs.Scene.{placed_of_scene}
use Rattle.cil_macros.proofs.BodyMeaning.{body_home, numbered_body, standing_home}
use Rattle.cil_macros.proofs.openings.home_at.Goals as goal

pub returns-in-None : goal.returns-in-None
returns-in-None c = λ p here.
    let l = ap length c.entries-standing.ensures.same in
    let below = c.in-None.ensures in
    standing_home c.args.scene.now c.args.openings.now c.args.at c.requires p here (omega (arith, l, below))

pub returns-in-Some : goal.returns-in-Some
returns-in-Some c = λ p here.
    let s = c.args.scene.now in
    let n = subst (λ k. IsNumbered s.brought.now.entries.items k c.args.at c.in-Some.number) (ap length c.entries-standing.ensures.same) c.in-Some.ensures in
    let first = c.requires.first n.rank n.called n.behind n.is in
    let same = n.body in
    let o = there_as c.args.openings.now c.in-Some.number c.index-openings-number.result (omega (arith, first, same)) c.index-openings-number.is in
    ap (λ (x : Opening). scope_there (slice_get (placed_of_scene s) x.home)) (sym c.index-openings-number.is)
    ∙ body_home s c.args.openings.now c.args.at c.requires p here c.in-Some.number n _ (numbered_body s c.args.openings.now c.args.at c.requires p here c.in-Some.number n)
    _ o

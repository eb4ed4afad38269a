use Rattle.std.proofs.Common.{◌∙◌, ◌||◌, ap, refl}
use Rattle.cil_base.specs.Among.{among}
use Rattle.cil_attrs.specs.Evaluated.{in_term}
use Rattle.cil_attrs.specs.Made.{said}
use Rattle.cil_attrs.proofs.MadeLemmas.{is_given}
use Rattle.cil_attrs.proofs.making.give.Goals as goal

pub returns : goal.returns
returns c =
    is_given c.args.all.now c.args.held.now.items c.taken-members.new.held.items _ c.args.given.now c.taken-members.result c.add.new.set c.taken-members.ensures.members c.taken-members.ensures.rest refl
    (λ m more begin v.
    (c.in_ok-add.ensures c.args.given.now.«module» m more begin).1 v
    ∙ ap (λ hs. among c.taken-members.result v || in_term hs c.args.all.now m v (said c.args.given.now)) c.as_slice.ensures.value)

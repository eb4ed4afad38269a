use Rattle.std.proofs.Common.{◌∙◌, arith, refl, sym}
use Rattle.cil_macros.specs.Placed.{meaning}
use Rattle.cil_macros.specs.Walks.{written_in}
use Rattle.cil_macros.proofs.ListPlaceLemmas.{all_right, one_right, one_wrong}
use Rattle.cil_macros.proofs.list_values.Caller.has_wrong_part.Goals as goal

pub loop-part-init : goal.loop-part-init
loop-part-init c = λ p here. refl

pub loop-part-preserved : goal.loop-part-preserved
loop-part-preserved c = λ p here.
    one_right (meaning (written_in c.args.self.now.scene.now.spaces.now) p) c.args.parts.now c.loop-part.part-index c.part-item.result c.loop-part-test.true c.part-item.is
    (c.loop-part.invariant p here) (sym (c.is_wrong_part.ensures p here) ∙ c.if-is_wrong_part.false)

pub returns-then-is_wrong_part : goal.returns-then-is_wrong_part
returns-then-is_wrong_part c = λ p here.
    one_wrong (meaning (written_in c.args.self.now.scene.now.spaces.now) p) c.args.parts.now c.loop-part.part-index c.part-item.result c.loop-part-test.true c.part-item.is
    (c.loop-part.invariant p here) (sym (c.is_wrong_part.ensures p here) ∙ c.if-is_wrong_part.true)

pub returns : goal.returns
returns c = λ p here.
    let over = c.loop-part-test.false in
    all_right (meaning (written_in c.args.self.now.scene.now.spaces.now) p) c.args.parts.now c.loop-part.part-index (omega (arith, over)) (c.loop-part.invariant p here)

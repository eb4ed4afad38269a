use Rattle.std.proofs.Common.{◌++◌, ◌∙◌, ap, get_or, refl}
use Rattle.std.specs.Prelude.{None}
use Rattle.cil_base.specs.MadeLists.{all_flat, one_flat}
use Rattle.cil_blocks.specs.Seeds.{body_parts}
use Rattle.cil_blocks.proofs.reach.all_in.Goals as goal

pub loop-body-preserved : goal.loop-body-preserved
loop-body-preserved c =
    one_flat (body_parts c.args.parts.now) c.args.bodies.now c.loop-body.body-index (get_or c.args.bodies.now c.loop-body.body-index None) None c.loop-body.all.items
    c.extend_from_slice.new.self.items c.loop-body-test.true refl c.loop-body.invariant
    (c.in_ok-extend_from_slice.ensures.items ∙ ap (λ xs. c.loop-body.all.items ++ xs) c.body_parts.ensures)

pub returns : goal.returns
returns c = all_flat (body_parts c.args.parts.now) c.args.bodies.now c.loop-body.body-index c.loop-body.all.items c.loop-body-test.false c.loop-body.invariant

use Rattle.std.proofs.Common.{refl}
use Rattle.std.specs.Prelude.{None}
use Rattle.std.specs.Option.{option_eq}
use Rattle.std.proofs.Math.Dec.{eqb}
use Rattle.cil_blocks.proofs.Reached.{one_joined, same_body}
use Rattle.cil_blocks.proofs.reach.insert_bodies.Goals as goal

pub loop-body-preserved : goal.loop-body-preserved
loop-body-preserved c =
    one_joined (option_eq eqb) same_body c.args.more.now c.loop-body.body-index _ None c.args.reached.now.keys c.loop-body.reached.keys _ c.loop-body-test.true refl
    c.loop-body.invariant c.in_ok-insert.ensures.keys
